use Rattle.std.proofs.Common.{◌≡◌, ◌++◌, List, refl, ap, ◌∙◌, arith, get_or}
use Rattle.page_model.specs.declared.request.Request.{Request}
use Rattle.journal_replay.proofs.Sent.{on_ok_map}
use Rattle.script_text.specs.Works.{requests_of}
use Rattle.script_text.proofs.Works.{same_at}
use Rattle.script_text.proofs.reader.add_item.Goals as goal

pub returns-clause-lists : goal.returns-clause-lists
returns-clause-lists g c =
    let old = c.args.scripts.now.items in
    let guest = c.args.item.guest in
    let more : List Request = requests_of (get_or c.args.pages.now guest 0) c.args.item.work in
    on_ok_map c.add.result _ _ (λ (grown : c.add.new.script.items ≡ c.index_mut.result.now.items ++ more). record {
      script = c.add.new.script;
      set = refl;
      grown = grown ∙ ap (λ v. v.items ++ more) (c.index_mut.ensures.value ∙ same_at old guest c.index_mut.result.now c.add.new.script (omega (arith, c.requires.guest, c.requires.guests)));
    }) c.add.ensures.items
