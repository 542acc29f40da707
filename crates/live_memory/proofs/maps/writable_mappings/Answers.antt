use Rattle.std.proofs.Common.{rules, ◌≡◌, ◌≢◌, ℕ, ◌<◌, ◌==◌, true, false, List, [], ◌∷◌, length, Result, Err, refl, sym, ◌∙◌, arith}
use Rattle.std.specs.List.{position_or_len, before_first, after_first, slice_split}
use Rattle.std.proofs.lemmas.Bool.{eqb-true}
use Rattle.live_memory.specs.declared.mapping.WritableMapping.{WritableMapping}
use Rattle.live_memory.specs.Maps.{IsPushed, IsRead, is_feed, mappings_from}
use Rattle.live_memory.specs.declared.fault.LiveFault.{LiveFault}
use Rattle.live_memory.specs.declared.fault.LiveFault.TheVariants.{OutOfMemory, System, Line, TooManyPages}
use Rattle.live_memory.proofs.Walked.{all_lines, cut_line, line_fault, line_on, with_front}
use Rattle.live_memory.proofs.maps.writable_mappings.Goals as goal

-- a fault of a line is the answer of the whole text
fault_read : {A : Type 0} (view : A → List WritableMapping) (text : Result (List WritableMapping) ℕ) (n : ℕ) (front after : List WritableMapping) (bytes line rest : List ℕ) (fault : LiveFault) (result : Result A LiveFault)
    → result ≡ Err fault → with_front front (mappings_from n bytes) ≡ text → position_or_len is_feed bytes < length bytes → line ≡ before_first is_feed bytes → rest ≡ after_first is_feed bytes
    → IsPushed n front after line (slice_split is_feed rest) (Err fault) → IsRead view text result
fault_read view text n front after bytes line rest (Line k) result same so_far within is behind pushed =
    rw (same, pushed.1) (sym so_far ∙ line_fault n front bytes line rest within is behind pushed.0)
fault_read view text n front after bytes line rest OutOfMemory result same so_far within is behind pushed = rw same tt
fault_read view text n front after bytes line rest (System error) result same so_far within is behind pushed = absurd pushed
fault_read view text n front after bytes line rest TooManyPages result same so_far within is behind pushed = absurd pushed

some_left : (xs : List ℕ) → (length xs == 0) ≡ false → xs ≢ []
some_left [] h same = cc h
some_left (x ∷ xs) h same = cc same

none_left : (xs : List ℕ) → (length xs == 0) ≡ true → xs ≡ []
none_left [] h = refl
none_left (x ∷ xs) h = let e : length (x ∷ xs) ≡ 0 = eqb-true (length (x ∷ xs)) 0 h in absurd (omega (arith, e))

pub returns-in_default-clause-read : goal.returns-in_default-clause-read
returns-in_default-clause-read g c =
    let rest = c.loop-rest.rest.now in
    sym c.loop-rest.invariant.read ∙ cut_line c.loop-rest.line c.loop-rest.mappings.items rest (some_left rest (search rules)) c.in_default.ensures.parts

pub returns-in_err-push_kept-clause-read : goal.returns-in_err-push_kept-clause-read
returns-in_err-push_kept-clause-read g c =
    let cut = c.in-Some.ensures.parts in
    fault_read (λ mappings. mappings.items) _ c.loop-rest.line c.loop-rest.mappings.items c.push_kept.new.mappings.items c.loop-rest.rest.now c.in-Some.bytes.now c.in-Some.behind.now
    c.in_err-push_kept.field-0.0 c.from_residual.result (search rules) c.loop-rest.invariant.read cut.0 cut.1 cut.2 c.in_err-push_kept.ensures.pushed

pub loop-rest-preserved : goal.loop-rest-preserved
loop-rest-preserved g c =
    let cut = c.in-Some.ensures.parts in
    let pushed = c.in_ok-push_kept.ensures.pushed in
    record {
      read = sym (line_on c.loop-rest.line c.loop-rest.mappings.items c.push_kept.new.mappings.items pushed.0 c.loop-rest.rest.now c.in-Some.bytes.now c.in-Some.behind.now cut.0 cut.1 cut.2 pushed.1 pushed.2) ∙ c.loop-rest.invariant.read;
      whole = c.in_ok-push_kept.ensures.whole c.loop-rest.invariant.whole;
      count = omega (arith, c.in-Some.ensures.length, c.loop-rest.invariant.count);
    }

pub returns-clause-read : goal.returns-clause-read
returns-clause-read g c =
    let none : c.loop-rest.rest.now ≡ [] = none_left c.loop-rest.rest.now (search rules) in
    sym c.loop-rest.invariant.read ∙ rw none (all_lines c.loop-rest.line c.loop-rest.mappings.items)
