use Rattle.std.proofs.Common.{◌≡◌, length, eqb, refl, ◌∙◌}
use Rattle.page_census.specs.Numbers.{shared}
use Rattle.page_census.proofs.Tallied.{shared_right}
use Rattle.page_census.proofs.numbers.guest_numbers.Goals as goal

pub returns : goal.returns
returns g c =
    let classes = c.args.classes.now in
    let right = shared_right (length c.args.copies.now) c.in_ok-own.own.copies.items classes c.in_ok-own.ensures.copies classes c.requires.below in
    let within : c.count_shared-2.result ≡ shared eqb classes classes = c.count_shared-2.ensures ∙ rw c.deref.ensures.value right in
    rw (c.count_zero.ensures, c.in_ok-own.ensures.distinct, c.count_shared.ensures, within) refl
