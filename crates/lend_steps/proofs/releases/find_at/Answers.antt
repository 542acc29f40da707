use Rattle.std.proofs.Common.{rules, ◌≡◌, ◌<◌, false, length, subst, arith}
use Rattle.lend_steps.specs.Releases.{ToRelease, asks, is_passed}
use Rattle.page_holds.specs.Rows.{PageChanges}
use Rattle.lend_steps.proofs.releases.find_at.Goals as goal

pub returns-clause-found : goal.returns-clause-found
returns-clause-found c =
    let less : c.args.count < length c.args.places.now = omega (arith, c.if-count-places.false) in
    let no : is_passed c.args.pins.now c.args.place c.args.pages.now ≡ false = search rules in
    asks c.to_release_there-is.result less no
    (subst (λ f. PageChanges (λ x y p q. ToRelease f c.to_release_there-is.result x y p q) c.args.lead c.args.place c.args.pages.now c.to_release_there-is.new.pages c.args.parts.now c.to_release_there-is.new.parts)
    c.facts_of-facts.ensures c.to_release_there-is.ensures)
    c.put_if.ensures.count c.put_if.ensures.places
