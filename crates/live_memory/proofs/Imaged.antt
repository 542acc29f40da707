-- The image of a process's memory.
use Rattle.std.proofs.Common.{◌≡◌, ℕ, ◌+◌, ◌/◌, ◌<◌, ◌-◌, ◌^◌, min, Bool, true, false, cond, List, [], ◌∷◌, length, Result, Ok, Err, refl, sym, ap, ◌∙◌, arith, inl, inr, length-append}
use Rattle.std.specs.Prelude.{nat_lt}
use Rattle.std.proofs.lemmas.Bool.{cases_Bool, ltb-true}
use Rattle.std.proofs.lemmas.List.Concat.{length-flat_map}
use Rattle.std.proofs.lemmas.List.FromFn.{length-map-range_with_len}
use Rattle.std.proofs.lemmas.List.Sums.{sum_by-cons}
use Rattle.memory_images.specs.Images.{few}
use Rattle.memory_images.specs.Pages.{count_of, page_count}
use Rattle.memory_images.specs.Answers.{Fails}
use Rattle.memory_images.specs.declared.fault.FormFault.{FormFault}
use Rattle.memory_images.specs.declared.fault.ImageFault.{ImageFault}
use Rattle.memory_images.specs.declared.fault.ImageFault.TheVariants as faults
use Rattle.memory_images.specs.declared.segment.Segment.{Segment}
use Rattle.live_memory.specs.Choices.{chosen}
use Rattle.live_memory.specs.Maps.{IsRead, mappings_of}
use Rattle.live_memory.specs.Opened.{AreOf, AreShared, HasTooMany, IsCounted, IsImage, IsOfSystem, IsRanged}
use Rattle.live_memory.specs.PageMaps.{numbers, numbers_in, pages_in}
use Rattle.live_memory.specs.declared.choice.MemoryChoice.{MemoryChoice}
use Rattle.live_memory.specs.declared.fault.LiveFault.{LiveFault}
use Rattle.live_memory.specs.declared.fault.LiveFault.TheVariants.{OutOfMemory, System, Line, TooManyPages}
use Rattle.live_memory.specs.declared.mapping.WritableMapping.{WritableMapping}
use Rattle.live_memory.specs.declared.pagemap.PageState.TheVariants.{Populated, Shared}

-- a fault of the list is the answer, whatever is seen of the others
pub fault_ranged : {A : Type 0} (view : A → List Segment) (choice : MemoryChoice) (maps : List ℕ) (fault : LiveFault)
    → IsRead (λ (mappings : List WritableMapping). mappings) (mappings_of maps) (Err fault) → IsRanged view choice maps (Err fault)
fault_ranged view choice maps (Line n) read = read
fault_ranged view choice maps OutOfMemory read = tt
fault_ranged view choice maps (System error) read = absurd read
fault_ranged view choice maps TooManyPages read = absurd read

pub fault_imaged : {A : Type 0} (view : A → List Segment) (choice : MemoryChoice) (pagemap maps : List ℕ) (fault : LiveFault)
    → IsRanged (λ (segments : List Segment). segments) choice maps (Err fault) → IsImage view choice pagemap maps (Err fault)
fault_imaged view choice pagemap maps (Line n) read = read
fault_imaged view choice pagemap maps OutOfMemory read = tt
fault_imaged view choice pagemap maps (System error) read = tt
fault_imaged view choice pagemap maps TooManyPages read = absurd read

pub system_imaged : {A : Type 0} (view : A → List Segment) (choice : MemoryChoice) (pagemap maps : List ℕ) (fault : LiveFault) → IsOfSystem fault → IsImage view choice pagemap maps (Err fault)
system_imaged view choice pagemap maps (Line n) of_system = absurd of_system
system_imaged view choice pagemap maps OutOfMemory of_system = tt
system_imaged view choice pagemap maps (System error) of_system = tt
system_imaged view choice pagemap maps TooManyPages of_system = absurd of_system

pub fault_counted : (choice : MemoryChoice) (pagemap maps : List ℕ) (fault : LiveFault)
    → IsRanged (λ (segments : List Segment). segments) choice maps (Err fault) → IsCounted choice pagemap maps (Err fault)
fault_counted choice pagemap maps (Line n) read = read
fault_counted choice pagemap maps OutOfMemory read = tt
fault_counted choice pagemap maps (System error) read = tt
fault_counted choice pagemap maps TooManyPages read = absurd read

pub system_counted : (choice : MemoryChoice) (pagemap maps : List ℕ) (fault : LiveFault) → IsOfSystem fault → IsCounted choice pagemap maps (Err fault)
system_counted choice pagemap maps (Line n) of_system = absurd of_system
system_counted choice pagemap maps OutOfMemory of_system = tt
system_counted choice pagemap maps (System error) of_system = tt
system_counted choice pagemap maps TooManyPages of_system = absurd of_system

-- how many pages segments have
pub length-numbers : (segments : List Segment) → length (numbers segments) ≡ count_of segments
length-numbers [] = refl
length-numbers (s ∷ rest) =
    omega (arith, length-append (pages_in s) (numbers rest), length-map-range_with_len (λ k. s.offset / 4096 + k) 0 (page_count s.len), length-numbers rest, sum_by-cons (λ (segment : Segment). page_count segment.len) s rest)

too_many : (segments : List Segment) (fault : FormFault) → few segments ≡ Err fault → 4294967295 < count_of segments
too_many segments fault e = elim (cases_Bool (nat_lt 4294967295 (count_of segments))) [
  | inl more ↦ ltb-true 4294967295 (count_of segments) more
  | inr less ↦ let same = rw less at e in cc same
]

-- a fault of the form is that of the definition
pub form_fails : {Y F : Type 0} (fault : ImageFault F) (form : FormFault) (said : Result Y FormFault) → fault ≡ faults.Form form → Fails fault said → said ≡ Err form
form_fails fault form said is fails = let known = rw is at fails in known

-- the segments have too many pages for an image
pub many_imaged : (choice : MemoryChoice) (pagemap maps : List ℕ) (mappings : List WritableMapping) (segments : List Segment) (fault : FormFault)
    → mappings_of maps ≡ Ok mappings → numbers segments ≡ numbers_in Populated pagemap (chosen choice mappings) → few segments ≡ Err fault → HasTooMany choice pagemap maps
many_imaged choice pagemap maps mappings segments fault said is e = record {
  mappings = mappings;
  said = said;
  many = omega (arith, too_many segments fault e, length-numbers segments, ap length is);
}

are_few : (segments seen : List Segment) → few segments ≡ Ok seen → seen ≡ segments
are_few segments seen e = elim (cases_Bool (nat_lt 4294967295 (count_of segments))) [
  | inl more ↦ let other = rw more at e in cc other
  | inr less ↦ let same = rw less at e in cc same
]

pub some_imaged : (choice : MemoryChoice) (pagemap maps : List ℕ) (mappings : List WritableMapping) (ranges segments seen : List Segment)
    → mappings_of maps ≡ Ok mappings → ranges ≡ chosen choice mappings → numbers segments ≡ numbers_in Populated pagemap ranges → few segments ≡ Ok seen
    → AreOf Populated choice pagemap maps seen
some_imaged choice pagemap maps mappings ranges segments seen said chosen_are is e = record {
  mappings = mappings;
  said = said;
  numbers_are = ap numbers (are_few segments seen e) ∙ is ∙ ap (numbers_in Populated pagemap) chosen_are;
}

pub some_counted : (choice : MemoryChoice) (pagemap maps : List ℕ) (mappings : List WritableMapping) (ranges segments : List Segment) (count : ℕ)
    → mappings_of maps ≡ Ok mappings → ranges ≡ chosen choice mappings → numbers segments ≡ numbers_in Shared pagemap ranges → count ≡ min (count_of segments) (2 ^ 64 - 1)
    → AreShared choice pagemap maps count
some_counted choice pagemap maps mappings ranges segments count said chosen_are is e = record {
  mappings = mappings;
  said = said;
  count_is = e ∙ ap (λ (n : ℕ). min n (2 ^ 64 - 1)) (sym (length-numbers segments) ∙ ap length (is ∙ ap (numbers_in Shared pagemap) chosen_are));
}
