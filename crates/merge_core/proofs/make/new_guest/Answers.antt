use Rattle.std.proofs.Common.{◌≡◌, ℕ, List, replicate, ap, ◌∙◌}
use Rattle.page_model.specs.Pages as s
use Rattle.page_model.specs.Pages.{SlotOf, GuestOf}
use Rattle.merge_core.specs.declared.held.PageEntry.TheVariants.{Unmapped}
use Rattle.merge_core.specs.View.{slot_of, slots_of}
use Rattle.merge_core.proofs.Repeated.{map_equal}
use Rattle.merge_core.proofs.make.new_guest.Goals as goal

pub returns : goal.returns
returns g c =
    let unmapped : slots_of c.in_ok-pages.pages ≡ replicate c.args.pages s.Unmapped = ap slots_of c.in_ok-pages.ensures ∙ map_equal slot_of c.args.pages Unmapped in
    ap (λ (slots : List (SlotOf ℕ)). let made : GuestOf ℕ = record { salt = c.args.salt; slots = slots } in made) unmapped
