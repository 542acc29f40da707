-- Texts that are sent piece by piece.
use Rattle.std.proofs.Common.{◌≡◌, ◌++◌, ℕ, Bool, true, List, [], length, take, drop, Option, Result, Ok, Err, refl, sym, ap, ◌∙◌, subst, append_assoc}
use Rattle.std.specs.Prelude.{OnOk, OnErr, IfErr, IsErr}
use Rattle.std.specs.Io.KnownBytes.{Appends}
use Rattle.std.proofs.KnownBytes.{Appends-nil, Appends-trans}
use Rattle.std.proofs.Math.Seq.{take-append_seam}
use Rattle.std.proofs.lemmas.List.{take-append-drop}
use Rattle.text_words.specs.declared.fault.TextFault.{TextFault}
use Rattle.text_words.specs.declared.fault.TextFault.TheVariants as faults
use Rattle.journal_replay.specs.Ends.{AppendsFront, Sends, Buffers, WritesAll}
use Rattle.journal_replay.specs.Replayed.{Prints}

-- what holds anyhow holds at an error
pub on_err : {X E : Type 0} (r : Result X E) (P : Type 0) → P → OnErr r P
on_err (Ok x) P h = tt
on_err (Err e) P h = h

-- what follows at an error
pub on_err_map : {X E : Type 0} (r : Result X E) (P Q : Type 0) → (P → Q) → OnErr r P → OnErr r Q
on_err_map (Ok x) P Q f h = tt
on_err_map (Err e) P Q f h = f h

-- what follows at a success
pub on_ok_map : {X E : Type 0} (r : Result X E) (P Q : Type 0) → (P → Q) → OnOk r P → OnOk r Q
on_ok_map (Ok x) P Q f h = f h
on_ok_map (Err e) P Q f h = tt

-- nothing was sent yet
pub sends_none : (a : Option (List ℕ)) (whole : List ℕ) → Sends a a whole whole
sends_none a whole = record { sent = []; appends = Appends-nil a; rest = refl }

-- more stands behind what is ahead, and behind the whole
pub sends_more : (a b : Option (List ℕ)) (ahead whole more : List ℕ) → Sends a b ahead whole → Sends a b (ahead ++ more) (whole ++ more)
sends_more a b ahead whole more s = record {
  sent = s.sent;
  appends = s.appends;
  rest = sym (append_assoc s.sent ahead more) ∙ ap (λ (xs : List ℕ). xs ++ more) s.rest;
}

-- first what stands before ahead was sent, and then of ahead what stands before left
pub sends_trans : (a b c : Option (List ℕ)) (ahead left whole : List ℕ) → Sends a b ahead whole → Sends b c left ahead → Sends a c left whole
sends_trans a b c ahead left whole first next = record {
  sent = first.sent ++ next.sent;
  appends = Appends-trans a b c first.sent next.sent first.appends next.appends;
  rest = append_assoc first.sent next.sent left ∙ ap (λ (xs : List ℕ). first.sent ++ xs) next.rest ∙ first.rest;
}

-- all that was ahead was sent
pub sends_all : (a b c : Option (List ℕ)) (ahead whole : List ℕ) → Sends a b ahead whole → Appends b c ahead → Appends a c whole
sends_all a b c ahead whole s h =
    let P : List ℕ → Type 0 = λ xs. Appends a c xs in
    subst P s.rest (Appends-trans a b c s.sent ahead s.appends h)

-- a front of the whole went out
front_of : (a c : Option (List ℕ)) (front rest whole : List ℕ) → front ++ rest ≡ whole → Appends a c front → AppendsFront a c whole
front_of a c front rest whole e h =
    let same : front ≡ take (length front) whole = sym (take-append_seam front rest) ∙ ap (λ (xs : List ℕ). take (length front) xs) e in
    let P : List ℕ → Type 0 = λ xs. Appends a c xs in
    (length front, subst P same h)

-- a front of what was ahead was sent
pub sends_front : (a b c : Option (List ℕ)) (ahead whole : List ℕ) → Sends a b ahead whole → AppendsFront b c ahead → AppendsFront a c whole
sends_front a b c ahead whole s h =
    let first : List ℕ = take h.0 ahead in
    let rest : List ℕ = drop h.0 ahead in
    let parts : first ++ rest ≡ ahead = take-append-drop h.0 ahead in
    let whole_is : (s.sent ++ first) ++ rest ≡ whole = append_assoc s.sent first rest ∙ ap (λ (xs : List ℕ). s.sent ++ xs) parts ∙ s.rest in
    front_of a c (s.sent ++ first) rest whole whole_is (Appends-trans a b c s.sent first s.appends h.1)

-- a front of some bytes is a front of more
pub front_more : (a c : Option (List ℕ)) (bytes more : List ℕ) → AppendsFront a c bytes → AppendsFront a c (bytes ++ more)
front_more a c bytes more h =
    let first : List ℕ = take h.0 bytes in
    let rest : List ℕ = drop h.0 bytes in
    let parts : first ++ (rest ++ more) ≡ bytes ++ more = sym (append_assoc first rest more) ∙ ap (λ (xs : List ℕ). xs ++ more) (take-append-drop h.0 bytes) in
    front_of a c first (rest ++ more) (bytes ++ more) parts h.1

-- what was ahead was written, so the whole was
pub writes_rest : (a b c : Option (List ℕ)) (failed : Bool) (ahead whole : List ℕ) (r : Result (Unit {0}) TextFault)
    → Sends a b ahead whole → WritesAll b c failed ahead r → WritesAll a c failed whole r
writes_rest a b c failed ahead whole r s w = record {
  ok = on_ok_map r (Appends b c ahead) (Appends a c whole) (sends_all a b c ahead whole s) w.ok;
  fine = w.fine;
  err = on_err_map r (AppendsFront b c ahead) (AppendsFront a c whole) (sends_front a b c ahead whole s) w.err;
  failed = w.failed;
  fault = w.fault;
}

-- the writer failed among the whole
pub writes_cut : (a c : Option (List ℕ)) (failed : Bool) (whole : List ℕ) (r : Result (Unit {0}) TextFault)
    → IsErr r → IfErr r (λ e. e ≡ faults.Write) → failed ≡ true → AppendsFront a c whole → WritesAll a c failed whole r
writes_cut a c failed whole (Ok done) is fault test front = cc
writes_cut a c failed whole (Err e) is fault test front = record { ok = tt; fine = tt; err = front; failed = test; fault = fault }

pub buffers_cut : (a c : Option (List ℕ)) (failed : Bool) (ahead whole cut : List ℕ) (r : Result (Unit {0}) TextFault)
    → IsErr r → IfErr r (λ e. e ≡ faults.Write) → failed ≡ true → AppendsFront a c cut → Buffers a c failed ahead whole cut r
buffers_cut a c failed ahead whole cut (Ok done) is fault test front = cc
buffers_cut a c failed ahead whole cut (Err e) is fault test front = record { sends = tt; fine = tt; err = front; failed = test; fault = fault }

-- all of a text was printed if it was written
pub writes_prints : (a c : Option (List ℕ)) (failed : Bool) (text : List ℕ) (r : Result (Unit {0}) TextFault)
    → WritesAll a c failed text r → Prints a c failed text r
writes_prints a c failed text (Ok u) w = record { ok = w.ok; err = tt; reader = refl; writer = w.fine }
writes_prints a c failed text (Err e) w =
    let P : TextFault → Type 0 = λ f. Prints a c failed text (Err f) in
    subst P (sym w.fault) (record { ok = tt; err = w.err; reader = refl; writer = w.failed })
