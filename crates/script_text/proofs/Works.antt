-- Lists of requests that grow by what lines stand for.
use Rattle.std.proofs.Common.{◌≡◌, ℕ, zero, suc, ◌+◌, ◌<◌, ◌==◌, true, false, List, [], ◌∷◌, ◌++◌, length, Result, Ok, Err, refl, sym, ap, ◌∙◌, arith, get_or, replicate, append-nil, append_assoc, length-append, add-one}
use Rattle.std.specs.Prelude.{slice_set}
use Rattle.std.proofs.lemmas.List.Folds.{list_any-append}
use Rattle.text_words.specs.Words.{◌>>=◌}
use Rattle.script_text.specs.Lines.{IsPlain}
use Rattle.std.proofs.lemmas.Bool.{eq-eqb, ne_eqb}
use Rattle.page_model.specs.Closing.{is_close, has_close}
use Rattle.page_model.specs.declared.request.Request.{Request}
use Rattle.page_model.specs.declared.request.Request.TheVariants.{Propose}
use Rattle.text_words.specs.declared.fault.TextFault.{TextFault}
use Rattle.script_text.specs.Works.{proposals, requests_of, size_of, asked_by, scripts_from, written_out}
use Rattle.script_text.specs.declared.work.Work.{Work}
use Rattle.script_text.specs.declared.work.Work.TheVariants.{Asks, ScansInOrder, ScansAtRandom}
use Rattle.script_text.specs.declared.work.Item.{Item}

-- the proposals of two scans with the same numbers
pub proposals_same : (f g : ℕ → ℕ) (n : ℕ) → ((k : ℕ) → f k ≡ g k) → proposals f n ≡ proposals g n
proposals_same f g zero h = refl
proposals_same f g (suc n) h = rw (proposals_same f g n h, h n) refl

proposals_length : (f : ℕ → ℕ) (n : ℕ) → length (proposals f n) ≡ n
proposals_length f zero = refl
proposals_length f (suc n) = omega (arith, length-append (proposals f n) (Propose (f n) ∷ []), proposals_length f n)

-- a line stands for as many requests as it says
pub requests_length : (pages : ℕ) (work : Work) → length (requests_of pages work) ≡ size_of work
unfolding requests_of
requests_length pages (Asks request) = refl
requests_length pages (ScansInOrder n) = proposals_length _ n
requests_length pages (ScansAtRandom seed n) = proposals_length _ n

-- each list, and behind it the one at its place
abbrev pub onto : List (List Request) → List (List Request) → List (List Request)
onto [] more = []
onto (list ∷ lists) [] = list ∷ lists
onto (list ∷ lists) (more ∷ mores) = (list ++ more) ∷ onto lists mores

-- the lists that were found so far, and what the later lines ask for
abbrev pub onto_said : List (List Request) → List ℕ → Result (List Item) TextFault → Result (List (List Request)) TextFault
onto_said lists pages (Ok items) = Ok (onto lists (written_out pages items))
onto_said lists pages (Err fault) = Err fault

-- an item of an earlier guest asks for nothing
earlier : (guest : ℕ) (pages : List ℕ) (item : Item) (items : List Item) → item.guest < guest → scripts_from guest pages (item ∷ items) ≡ scripts_from guest pages items
earlier guest [] item items h = refl
earlier guest (n ∷ pages) item items h =
    let test : (item.guest == guest) ≡ false = ne_eqb item.guest guest (λ e. omega arith) in
    rw (test, earlier (guest + 1) pages item items (omega arith)) refl

-- one more line
onto_more : (guest k : ℕ) (pages : List ℕ) (lists : List (List Request)) (item : Item) (items : List Item) → item.guest ≡ guest + k → k < length pages → length lists ≡ length pages
    → onto lists (scripts_from guest pages (item ∷ items)) ≡ onto (slice_set lists k (get_or lists k [] ++ requests_of (get_or pages k 0) item.work)) (scripts_from guest pages items)
onto_more guest k [] lists item items is few long = absurd (omega arith)
onto_more guest k (n ∷ pages) [] item items is few long = absurd (omega arith)
onto_more guest zero (n ∷ pages) (list ∷ lists) item items is few long =
    let test : (item.guest == guest) ≡ true = eq-eqb item.guest guest (omega arith) in
    rw (test, earlier (guest + 1) pages item items (omega arith)) (ap (λ (xs : List Request). xs ∷ onto lists (scripts_from (guest + 1) pages items)) (sym (append_assoc list (requests_of n item.work) (asked_by guest n items))))
onto_more guest (suc k) (n ∷ pages) (list ∷ lists) item items is few long =
    let test : (item.guest == guest) ≡ false = ne_eqb item.guest guest (λ e. omega arith) in
    rw (test, onto_more (guest + 1) k pages lists item items (omega arith) (omega arith) (omega arith)) refl

pub onto_line : (pages : List ℕ) (lists : List (List Request)) (item : Item) (said : Result (List Item) TextFault) → item.guest < length pages → length lists ≡ length pages
    → onto_said lists pages (said >>= λ items. Ok (item ∷ items)) ≡ onto_said (slice_set lists item.guest (get_or lists item.guest [] ++ requests_of (get_or pages item.guest 0) item.work)) pages said
onto_line pages lists item (Ok items) few long = ap Ok (onto_more 0 item.guest pages lists item items (omega arith) few long)
onto_line pages lists item (Err fault) few long = refl

onto_none : (guest : ℕ) (pages : List ℕ) (lists : List (List Request)) → length lists ≡ length pages → onto lists (scripts_from guest pages []) ≡ lists
onto_none guest [] [] long = refl
onto_none guest [] (list ∷ lists) long = absurd (omega arith)
onto_none guest (n ∷ pages) [] long = absurd (omega arith)
onto_none guest (n ∷ pages) (list ∷ lists) long = rw (append-nil list, onto_none (guest + 1) pages lists (omega arith)) refl

-- behind the last line nothing is asked for
pub onto_last : (pages : List ℕ) (lists : List (List Request)) → length lists ≡ length pages → onto lists (written_out pages []) ≡ lists
onto_last pages lists long = onto_none 0 pages lists long

onto_empty : (guest : ℕ) (pages : List ℕ) (items : List Item) → onto (replicate (length pages) []) (scripts_from guest pages items) ≡ scripts_from guest pages items
onto_empty guest [] items = refl
onto_empty guest (n ∷ pages) items = ap (λ (lists : List (List Request)). asked_by guest n items ∷ lists) (onto_empty (guest + 1) pages items)

-- before the first line no list has anything
pub onto_first : (pages : List ℕ) (said : Result (List Item) TextFault) → onto_said (replicate (length pages) []) pages said ≡ (said >>= λ items. Ok (written_out pages items))
onto_first pages (Ok items) = ap Ok (onto_empty 0 pages items)
onto_first pages (Err fault) = refl

-- a list without a close, and more requests without one
pub plain_both : (xs ys : List Request) → has_close xs ≡ false → has_close ys ≡ false → has_close (xs ++ ys) ≡ false
plain_both xs ys h k = list_any-append is_close xs ys ∙ rw (h, k) refl

proposals_plain : (f : ℕ → ℕ) (n : ℕ) → has_close (proposals f n) ≡ false
proposals_plain f zero = refl
proposals_plain f (suc n) = plain_both (proposals f n) (Propose (f n) ∷ []) (proposals_plain f n) refl

pub requests_plain : (pages : ℕ) (work : Work) → IsPlain work → has_close (requests_of pages work) ≡ false
unfolding requests_of
requests_plain pages (Asks request) h = rw h refl
requests_plain pages (ScansInOrder n) h = proposals_plain _ n
requests_plain pages (ScansAtRandom seed n) h = proposals_plain _ n

-- one more number of a scan
pub proposals_step : (f : ℕ → ℕ) (n : ℕ) → proposals f (n + 1) ≡ proposals f n ++ Propose (f n) ∷ []
proposals_step f n = rw add-one refl

-- no default is read within a list
pub same_at : {X : Type 0} (xs : List X) (i : ℕ) (d e : X) → i < length xs → get_or xs i d ≡ get_or xs i e
same_at [] i d e h = absurd (omega arith)
same_at (x ∷ xs) zero d e h = refl
same_at (x ∷ xs) (suc i) d e h = same_at xs i d e (omega arith)
