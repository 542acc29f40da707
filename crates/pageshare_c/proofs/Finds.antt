-- Which frame a page has and what it reads as, by the contract of `Core::frame`.
use Rattle.std.proofs.Common.{◌≡◌, ℕ, false, Option, Some, None, IsSome, is_some, replicate, refl, ap, sym, ◌∙◌}
use Rattle.std.specs.Prelude.{Ok, Err}
use Rattle.std.specs.Option.{option_map, option_and_then}
use Rattle.page_model.specs.Pages.{SlotOf, Slot, Unmapped, Private, Shared, State, page_at, bytes_of, is_mapped, blank}
use Rattle.merge_core.proofs.Views.{page_in}
use Rattle.merge_core.specs.Pmap.{slot_in, frame_of}
use Rattle.merge_core.specs.Shown.{Shown, state_of}
use Rattle.pageshare_c.specs.declared.answer.Refusal.TheVariants as r
use Rattle.pageshare_c.specs.Found.{of_page, text_in, frame_in, found_in}

-- a page of a core, and the page of the model that it stands for
abbrev Page : Type 0
Page = ℕ × SlotOf ℕ

abbrev shown_page : Shown → Page → ℕ × Slot
shown_page c p = (p.0, slot_in c.frames p.1)

absent : (c : Shown) (o : Option Page) (p : Option (ℕ × Slot)) → p ≡ option_map (shown_page c) o → (IsSome p → ⊥) → frame_in o ≡ Err r.NoPage
absent c None p e none = refl
absent c (Some page) p e none = absurd (none (ap is_some e))

present : (c : Shown) (o : Option Page) (p : Option (ℕ × Slot)) → p ≡ option_map (shown_page c) o → IsSome p → IsSome o
present c None p e some = sym (ap is_some e) ∙ some
present c (Some page) p e some = refl

-- no page of the model is no page of the core
pub found_absent : (c : Shown) (guest ppn : ℕ) → (IsSome (page_at (state_of c).guests guest ppn) → ⊥) → found_in c guest ppn ≡ Err r.NoPage
found_absent c guest ppn none = absent c (page_at c.pmap guest ppn) (page_at (state_of c).guests guest ppn) (page_in c.frames c.pmap guest ppn) none

unmapped : (o : Option Page) → IsSome o → None ≡ option_and_then (λ x. frame_of x.1) o → frame_in o ≡ Err r.Unmapped
unmapped None some e = cc
unmapped (Some (salt, Unmapped)) some e = refl
unmapped (Some (salt, Private mpn hint)) some e = cc
unmapped (Some (salt, Shared mpn)) some e = cc

pub found_unmapped : (c : Shown) (guest ppn : ℕ) → IsSome (page_at (state_of c).guests guest ppn) → None ≡ option_and_then (λ x. frame_of x.1) (page_at c.pmap guest ppn) → found_in c guest ppn ≡ Err r.Unmapped
found_unmapped c guest ppn some e =
    unmapped (page_at c.pmap guest ppn) (present c (page_at c.pmap guest ppn) (page_at (state_of c).guests guest ppn) (page_in c.frames c.pmap guest ppn) some) e

mapped : (o : Option Page) (mpn : ℕ) → Some mpn ≡ option_and_then (λ x. frame_of x.1) o → frame_in o ≡ Ok mpn
mapped None mpn e = cc
mapped (Some (salt, Unmapped)) mpn e = cc
mapped (Some (salt, Private m hint)) mpn e = cc
mapped (Some (salt, Shared m)) mpn e = cc

pub found_mapped : (c : Shown) (guest ppn mpn : ℕ) → Some mpn ≡ option_and_then (λ x. frame_of x.1) (page_at c.pmap guest ppn) → found_in c guest ppn ≡ Ok mpn
found_mapped c guest ppn mpn e = mapped (page_at c.pmap guest ppn) mpn e

no_page : (c : Shown) (o : Option Page) (p : Option (ℕ × Slot)) → p ≡ option_map (shown_page c) o → (IsSome p → ⊥) → None ≡ option_and_then (λ x. frame_of x.1) o
no_page c None p e none = refl
no_page c (Some page) p e none = absurd (none (ap is_some e))

-- a page that doesn't exist has no frame
pub no_frame : (c : Shown) (guest ppn : ℕ) → (IsSome (page_at (state_of c).guests guest ppn) → ⊥) → None ≡ option_and_then (λ x. frame_of x.1) (page_at c.pmap guest ppn)
no_frame c guest ppn none = no_page c (page_at c.pmap guest ppn) (page_at (state_of c).guests guest ppn) (page_in c.frames c.pmap guest ppn) none

no_text : (p : Option (ℕ × Slot)) → (IsSome p → ⊥) → of_page (option_map (λ x. bytes_of x.1) p) ≡ Err r.NoPage
no_text None none = refl
no_text (Some page) none = absurd (none refl)

pub text_absent : (s : State) (guest ppn : ℕ) → (IsSome (page_at s.guests guest ppn) → ⊥) → text_in s guest ppn ≡ Err r.NoPage
text_absent s guest ppn none = no_text (page_at s.guests guest ppn) none

blank_text : (p : Option (ℕ × Slot)) → Some false ≡ option_map (λ x. is_mapped x.1) p → of_page (option_map (λ x. bytes_of x.1) p) ≡ Ok (replicate 4096 0)
unfolding blank
blank_text None e = cc
blank_text (Some (salt, Unmapped)) e = refl
blank_text (Some (salt, Private bytes hint)) e = cc
blank_text (Some (salt, Shared bytes)) e = cc

pub text_blank : (s : State) (guest ppn : ℕ) → Some false ≡ option_map (λ x. is_mapped x.1) (page_at s.guests guest ppn) → text_in s guest ppn ≡ Ok (replicate 4096 0)
text_blank s guest ppn e = blank_text (page_at s.guests guest ppn) e
