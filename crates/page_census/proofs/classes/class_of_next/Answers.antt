use Rattle.std.proofs.Common.{◌≡◌, ◌∙◌, ◌%◌, ◌-◌, ◌<◌, ℕ, suc, length, get_or, arith, ap, sym, refl}
use Rattle.std.proofs.lemmas.List.{get_or_read_under}
use Rattle.page_census.specs.Classes.{class_of}
use Rattle.page_census.specs.Contents.{contents, content_at}
use Rattle.page_census.specs.Fingerprints.{seen}
use Rattle.page_census.proofs.Fingerprints.{length-seen}
use Rattle.page_census.proofs.Chained.{last_le, starts, at_link, goes_on, ends_same, ends_none}
use Rattle.page_census.proofs.classes.class_of_next.Given.{Over}
use Rattle.page_census.proofs.classes.class_of_next.Goals as goal
use Rattle.page_census.proofs.classes.class_of_next.Goals.{After-len-number, In-loop-link}

-- the number of the next page
next : (g : Over) (c : After-len-number g) → c.len-number.result ≡ length c.args.known.now.classes.items
next g c = omega (arith, c.len-number.ensures, c.args.known.now.classes.ok.0)

more : (g : Over) (c : After-len-number g) → c.len-number.result < length (seen c.args.by (contents g.S.PageSource.pages c.args.guests.now) c.args.marks.now)
more g c = omega (arith, length-seen (contents g.S.PageSource.pages c.args.guests.now) c.args.marks.now c.args.by, c.requires.more, c.len-number.ensures)

-- the page at the link came before it
below : (g : Over) (c : In-loop-link g) → c.len-number.result ≡ length c.args.known.now.classes.items → c.len-number.result < length (seen c.args.by (contents g.S.PageSource.pages c.args.guests.now) c.args.marks.now) → c.loop-link.link - 1 < c.len-number.result
below g c is some =
    let known = c.args.known.now in
    let first : c.loop-link.link ≡ suc (c.loop-link.link - 1) = omega (arith, c.loop-link-test.true) in
    let found = at_link _ _ c.args.marks.now known.classes.items known.links.items known.heads.items c.requires.classed c.len-number.result is some c.loop-link.link c.loop-link.invariant.walk (c.loop-link.link - 1) first in
    omega (arith, found.within, c.loop-link.invariant.walk.within)

pub loop-link-init : goal.loop-link-init
loop-link-init g c =
    let at = (goal.at.loop-link-init g c).After-len-number in
    let known = c.args.known.now in
    let buckets : c.len.result ≡ length known.heads.items = omega (arith, c.len.ensures, known.heads.ok.0) in
    let bucket : ℕ = get_or c.args.marks.now c.len-number.result 0 % length known.heads.items in
    let within : bucket < length known.heads.items = omega (arith, c.requires.classed.buckets) in
    record {
      walk = starts _ _ c.args.marks.now known.classes.items known.links.items known.heads.items c.requires.classed c.len-number.result (next g at) (more g at) c.index-link.result.now
          (get_or_read_under known.heads.items bucket (length known.heads.items) c.index-link.result.now 0 (rw buckets at c.index-link.ensures) within refl ∙ c.requires.classed.heads_are bucket within);
      own = record { right = λ steady read. cc };
      number = refl;
    }

pub is_same-requires-clause-b_within : goal.is_same-requires-clause-b_within
is_same-requires-clause-b_within g c =
    let at = goal.at.is_same-requires-clause-b_within g c in
    omega (arith, below g at.In-loop-link (next g at.After-len-number) (more g at.After-len-number), c.requires.more, c.len-number.ensures)

pub returns-then-branch-clause-below : goal.returns-then-branch-clause-below
returns-then-branch-clause-below g c =
    let at = goal.at.returns-then-branch-clause-below g c in
    omega (arith, below g at.In-loop-link (next g at.After-len-number) (more g at.After-len-number), c.len-number.ensures)

pub returns-then-branch-clause-right : goal.returns-then-branch-clause-right
returns-then-branch-clause-right g c =
    let at = (goal.at.returns-then-branch-clause-right g c).After-len-number in
    let known = c.args.known.now in
    let all = seen c.args.by (contents g.S.PageSource.pages c.args.guests.now) c.args.marks.now in
    let first : c.loop-link.link ≡ suc (c.loop-link.link - 1) = omega (arith, c.loop-link-test.true) in
    let number : c.len-number.result ≡ known.classes.len = c.len-number.ensures in
    λ steady. ends_same _ all c.args.marks.now known.classes.items known.links.items known.heads.items c.requires.classed c.len-number.result (next g at) (more g at)
    c.loop-link.link c.loop-link.invariant.walk steady (c.loop-link.link - 1) first (sym (rw c.loop-link.invariant.number at (c.in_ok-is_same.ensures.right steady)) ∙ c.if-branch.true)
    ∙ ap (λ (n : ℕ). class_of all (content_at all n)) number

pub index-link-requires-in-loop-link : goal.index-link-requires-in-loop-link
index-link-requires-in-loop-link g c =
    let at = goal.at.index-link-requires-in-loop-link g c in
    let is = next g at.After-len-number in
    omega (arith, below g at.In-loop-link is (more g at.After-len-number), is, c.requires.classed.linked, c.args.known.now.links.ok.0)

pub loop-link-preserved : goal.loop-link-preserved
loop-link-preserved g c =
    let at = goal.at.loop-link-preserved g c in
    let known = c.args.known.now in
    let is = next g at.After-len-number in
    let some = more g at.After-len-number in
    let first : c.loop-link.link ≡ suc (c.loop-link.link - 1) = omega (arith, c.loop-link-test.true) in
    let within : c.loop-link.link - 1 < length known.links.items = omega (arith, below g at.In-loop-link is some, is, c.requires.classed.linked) in
    let read = get_or_read_under known.links.items (c.loop-link.link - 1) (length known.links.items) c.index-link-in-loop-link.result.now 0 c.index-link-in-loop-link.ensures within refl in
    record {
      walk = goes_on _ _ c.args.marks.now known.classes.items known.links.items known.heads.items c.requires.classed c.len-number.result is some
          c.loop-link.link c.loop-link.invariant.walk (c.loop-link.link - 1) c.index-link-in-loop-link.result.now first read (λ steady. sym (rw c.loop-link.invariant.number at (c.in_ok-is_same.ensures.right steady)) ∙ c.if-branch.false);
      own = c.in_ok-is_same.ensures.held;
      number = c.in_ok-is_same.ensures.number ∙ c.loop-link.invariant.number;
    }

pub loop-link-smaller : goal.loop-link-smaller
loop-link-smaller g c =
    let at = goal.at.loop-link-smaller g c in
    let known = c.args.known.now in
    let is = next g at.After-len-number in
    let place = c.loop-link.link - 1 in
    let lower = below g at.In-loop-link is (more g at.After-len-number) in
    let within : place < length known.links.items = omega (arith, lower, is, c.requires.classed.linked) in
    let read = get_or_read_under known.links.items place (length known.links.items) c.index-link-in-loop-link.result.now 0 c.index-link-in-loop-link.ensures within refl in
    let links_are = c.requires.classed.links_are place (omega (arith, lower, is)) in
    omega (arith, read, links_are, last_le c.args.marks.now known.classes.items (length known.heads.items) (get_or c.args.marks.now place 0 % length known.heads.items) place, c.loop-link-test.true)

pub returns-clause-right : goal.returns-clause-right
returns-clause-right g c =
    let at = (goal.at.returns-clause-right g c).After-len-number in
    let known = c.args.known.now in
    let all = seen c.args.by (contents g.S.PageSource.pages c.args.guests.now) c.args.marks.now in
    let number : c.len-number.result ≡ known.classes.len = c.len-number.ensures in
    λ steady. ends_none _ all c.args.marks.now known.classes.items known.links.items known.heads.items c.requires.classed c.len-number.result (next g at) (more g at) c.loop-link.link c.loop-link.invariant.walk steady (omega (arith, c.loop-link-test.false)) ∙ ap (λ (n : ℕ). class_of all (content_at all n)) number
