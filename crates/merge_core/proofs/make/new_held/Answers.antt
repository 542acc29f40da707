use Rattle.std.proofs.Common.{ℕ, sym, arith}
use Rattle.std.specs.Ordering.{nat_cmp}
use Rattle.std.specs.FinMap as maps
use Rattle.std.specs.Prelude.{Option, None, List}
use Rattle.std.proofs.lemmas.List.{length-replicate}
use Rattle.page_model.specs.Limits.{shapes}
use Rattle.share_table.specs.declared.entries.HintFrame.{HintFrame}
use Rattle.merge_core.proofs.Empty.{empty_ties, empty_few, empty_len}
use Rattle.merge_core.proofs.make.new_held.Goals as goal

pub returns-clause-whole : goal.returns-clause-whole
returns-clause-whole g c =
    let total : ℕ = c.args.shape.now.frames in
    let salts = c.args.shape.now.salts in
    let pages = c.args.shape.now.pages in
    let made = c.in_ok-guests.ensures in
    let limits = made.limits in
    record {
      ties = rw (made.guests, c.requires, made.table, made.notes) (empty_ties g.H.HashFunction.hash_of total (shapes salts pages));
      few = rw made.guests (empty_few salts pages limits.1.2 limits.1.1 limits.2.1);
      total = rw c.requires (omega (arith, length-replicate {A = Option (List ℕ)} total None, limits.0));
      hints = rw made.table (sym (maps.len-empty nat_cmp HintFrame));
    }

pub returns-clause-guests : goal.returns-clause-guests
returns-clause-guests g c =
    let made = c.in_ok-guests.ensures in
    rw made.guests (empty_len c.args.shape.now.salts c.args.shape.now.pages made.limits.1.2)
