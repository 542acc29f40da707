-- The guests' lists while lines are read.
use Rattle.std.proofs.Common.{◌≡◌, ℕ, zero, suc, ◌+◌, ◌<◌, ◌==◌, Bool, true, false, cond, List, [], ◌∷◌, ◌++◌, length, Result, Ok, Err, refl, sym, ap, ◌∙◌, arith, get_or, replicate, length-append}
use Rattle.std.specs.Prelude.{slice_set, All}
use Rattle.std.specs.declared.vec.Vec.{Vec}
use Rattle.std.proofs.lemmas.List.{length-map, length-set, map-set, length-replicate, get_or-replicate, get_or-map}
use Rattle.std.proofs.lemmas.List.Elements.{All-set}
use Rattle.std.proofs.lemmas.List.Sums.{sum_by-set, sum_by-cons}
use Rattle.page_model.specs.Closing.{has_close}
use Rattle.page_model.specs.declared.request.Request.{Request}
use Rattle.text_words.specs.declared.fault.Cause.TheVariants as causes
use Rattle.text_words.specs.declared.fault.TextFault.{TextFault}
use Rattle.text_words.specs.declared.fault.TextFault.TheVariants as faults
use Rattle.journal_text.specs.Texts.{ended, nothing_more}
use Rattle.script_text.specs.declared.work.Item.{Item}
use Rattle.script_text.specs.Lines.{IsPlain}
use Rattle.merge_machine.specs.Scripts.{entries_needed}
use Rattle.script_text.specs.Views.{lists_of, Adds, Fills}
use Rattle.script_text.specs.Works.{requests_of, size_of}
use Rattle.script_text.proofs.Works.{onto_said, onto_last, plain_both, requests_plain, requests_length}

module _ {A : Type 0} where
  -- as many lists as guests
  pub fresh_length : (vs : List (Vec Request A)) (n : ℕ) → lists_of vs ≡ replicate n [] → length vs ≡ n
  fresh_length vs n h = let f : Vec Request A → List Request = λ v. v.items in sym (length-map vs f) ∙ ap length h ∙ length-replicate n []

  fresh_at : (vs : List (Vec Request A)) (n k : ℕ) (d : Vec Request A) → lists_of vs ≡ replicate n [] → k < length vs → (get_or vs k d).items ≡ []
  fresh_at vs n k d h l =
      let f : Vec Request A → List Request = λ v. v.items in
      sym (get_or-map f vs k d [] l) ∙ ap (λ (lists : List (List Request)). get_or lists k []) h ∙ get_or-replicate n k [] [] (omega (arith, fresh_length vs n h))

  -- no close stands in empty lists
  pub fresh_plain : (vs : List (Vec Request A)) (n : ℕ) → lists_of vs ≡ replicate n [] → All (λ v. has_close v.items ≡ false) vs
  fresh_plain vs n h = λ k d l. ap has_close (fresh_at vs n k d h l)

  -- their closes alone
  pub fresh_entries : (vs : List (Vec Request A)) (n : ℕ) → lists_of vs ≡ replicate n [] → entries_needed vs ≡ n
  fresh_entries [] zero h = refl
  fresh_entries [] (suc n) h = absurd (omega (arith, ap length h))
  fresh_entries (v ∷ vs) zero h = absurd (omega (arith, ap length h))
  fresh_entries (v ∷ vs) (suc n) h =
      let first : (get_or (v ∷ vs) 0 v).items ≡ [] = fresh_at (v ∷ vs) (suc n) 0 v h (omega arith) in
      let later : lists_of vs ≡ replicate n [] = ap tail_of h in
      omega (arith, sum_by-cons (λ (s : Vec Request A). length s.items + 1) v vs, ap length first, fresh_entries vs n later) where
        tail_of : List (List Request) → List (List Request)
        tail_of [] = []
        tail_of (x ∷ xs) = xs

  pub lists_length : (vs : List (Vec Request A)) → length (lists_of vs) ≡ length vs
  lists_length vs = let f : Vec Request A → List Request = λ v. v.items in length-map vs f

  -- one list grew
  pub lists_added : (pages : List ℕ) (item : Item) (old new : List (Vec Request A)) → Adds pages item old new → item.guest < length old
      → lists_of new ≡ slice_set (lists_of old) item.guest (get_or (lists_of old) item.guest [] ++ requests_of (get_or pages item.guest 0) item.work)
  lists_added pages item old new adds few =
      let f : Vec Request A → List Request = λ v. v.items in
      let more : List Request = requests_of (get_or pages item.guest 0) item.work in
      ap lists_of adds.set ∙ map-set f old item.guest adds.script
      ∙ ap (λ (xs : List Request). slice_set (lists_of old) item.guest xs) (adds.grown ∙ ap (λ (xs : List Request). xs ++ more) (sym (get_or-map f old item.guest adds.script [] few)))

  pub length_added : (pages : List ℕ) (item : Item) (old new : List (Vec Request A)) → Adds pages item old new → length new ≡ length old
  length_added pages item old new adds = ap length adds.set ∙ length-set old item.guest adds.script

  pub plain_added : (pages : List ℕ) (item : Item) (old new : List (Vec Request A)) → Adds pages item old new → item.guest < length old → IsPlain item.work
      → All (λ v. has_close v.items ≡ false) old → All (λ v. has_close v.items ≡ false) new
  plain_added pages item old new adds few plain all =
      let P : Vec Request A → Type 0 = λ v. has_close v.items ≡ false in
      let script : has_close adds.script.items ≡ false = ap has_close adds.grown ∙ plain_both (get_or old item.guest adds.script).items (requests_of (get_or pages item.guest 0) item.work) (all item.guest adds.script few) (requests_plain (get_or pages item.guest 0) item.work plain) in
      rw adds.set (All-set P old item.guest adds.script script all)

  pub entries_added : (pages : List ℕ) (item : Item) (old new : List (Vec Request A)) → Adds pages item old new → item.guest < length old → entries_needed new ≡ entries_needed old + size_of item.work
  entries_added pages item old new adds few =
      let f : Vec Request A → ℕ = λ s. length s.items + 1 in
      let sums = sum_by-set f old item.guest adds.script adds.script few in
      let before : List Request = (get_or old item.guest adds.script).items in
      let more : List Request = requests_of (get_or pages item.guest 0) item.work in
      let grown : length adds.script.items ≡ length before + size_of item.work = ap length adds.grown ∙ length-append before more ∙ ap (λ (n : ℕ). length before + n) (requests_length (get_or pages item.guest 0) item.work) in
      omega (arith, ap entries_needed adds.set, sums, grown)

-- a list of requests is filled up to the end line
fills_by : (b last : Bool) (m : ℕ) (pages : List ℕ) (lists : List (List Request)) (read : Result (List (List Request)) TextFault) → length lists ≡ length pages
    → read ≡ onto_said lists pages (nothing_more (cond b (cond last (Ok tt) (Err (faults.Line m causes.Form))) (Err faults.Count)))
    → Fills lists (cond b (cond last (Ok tt) (Err (faults.Line m causes.Form))) (Err faults.Count)) read
fills_by true true m pages lists read long h = h ∙ ap Ok (onto_last pages lists long)
fills_by true false m pages lists read long h = h
fills_by false last m pages lists read long h = h

pub fills_ended : (pages : List ℕ) (lists : List (List Request)) (n k : ℕ) (last : Bool) (count : ℕ) (read : Result (List (List Request)) TextFault) → length lists ≡ length pages
    → read ≡ onto_said lists pages (nothing_more (ended n k last count)) → Fills lists (ended n k last count) read
fills_ended pages lists n k last count read long h = fills_by (count == k) last (n + 1) pages lists read long h
