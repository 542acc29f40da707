-- The bytes of frames stay, since a frame's bytes are the text of its page.
use Rattle.std.proofs.Common.{◌≡◌, ◌≢◌, ℕ, zero, suc, ◌+◌, true, false, List, take, drop, Option, Some, None, IsSome, refl, ap, sym, subst, ◌∙◌, ◌⊎◌, inl, inr}
use Rattle.std.specs.Option.{option_map, option_and_then}
use Rattle.std.proofs.lemmas.Bool.{cases_eq, false≢true}
use Rattle.std.proofs.lemmas.Option.{same_Some}
use Rattle.page_model.specs.Pages.{SlotOf, Slot, Unmapped, Private, Shared, Guest, State, bytes_of, written, with_slot, page_at}
use Rattle.page_model.specs.Steps.{Outcome, Step, stays, proposed, released, on_page, at_page, answered, step}
use Rattle.page_model.specs.Replay.{state_after, verdicts_of}
use Rattle.page_model.specs.Stored.{is_done, text_at}
use Rattle.page_model.specs.declared.request.Request.{Request}
use Rattle.page_model.specs.declared.request.Request.TheVariants.{Propose, Store, Load, Release, Count, Close}
use Rattle.page_model.specs.declared.verdict.Verdict.{Verdict}
use Rattle.page_model.specs.declared.verdict.Verdict.TheVariants as v
use Rattle.page_model.proofs.Texts.{SameTexts, other, at_page_keeps, proposed_keeps}
use Rattle.page_lending.specs.Lending.{stores_from, entries_of, page_stored, page_lent}
use Rattle.page_lending.proofs.Stores.{store_at, Ends, store_ends}
use Rattle.machine_frames.specs.FrameMap.{FrameMap, frame, IsTaken}
use Rattle.merge_core.specs.Pmap.{Pmap, bytes_in, slot_in, guests_in, frame_of}
use Rattle.merge_core.specs.Shown.{Shown, state_of, FramesOfPages}
use Rattle.merge_core.specs.Stays.{frame_at, Change, Keeps, TakesFree, JoinsAnother, GivesUp, change_at, NamedFrame, AllKeep, OthersKeep}
use Rattle.merge_core.specs.Lending.{Lends, keeps_own, has_joined, both_changes, release_verdict}
use Rattle.frame_laws.specs.BytesStay.{BytesStay, written_by_store, written_by_lend, RequestKeepsBytes, StoresKeepBytes, LendKeepsBytes, TakingBackKeepsBytes}
use Rattle.merge_core.specs.declared.lent.Lent.{Lent}
use Rattle.merge_core.proofs.FrameLemmas.{bytes_are}
use Rattle.merge_core.proofs.Staying.{frame_is}
use Rattle.merge_core.proofs.Views.{page_in}

none_some : (m : ℕ) → None ≡ Some m → ⊥
none_some m e = cc

-- the text of a page is what its frame holds
text_by : (frames : FrameMap) (m : ℕ) (o : Option (ℕ × SlotOf ℕ)) → option_and_then (λ (x : ℕ × SlotOf ℕ). frame_of x.1) o ≡ Some m → option_map (λ (x : ℕ × Slot). bytes_of x.1) (option_map (λ (x : ℕ × SlotOf ℕ). let p : ℕ × Slot = (x.0, slot_in frames x.1) in p) o) ≡ Some (bytes_in frames m)
text_by frames m None e = absurd (none_some m e)
text_by frames m (Some (salt, Unmapped)) e = absurd (none_some m e)
text_by frames m (Some (salt, Private n hint)) e = ap (option_map (bytes_in frames)) e
text_by frames m (Some (salt, Shared n)) e = ap (option_map (bytes_in frames)) e

text_is : (frames : FrameMap) (pmap : Pmap) (a b m : ℕ) → frame_at pmap a b ≡ Some m → text_at (guests_in frames pmap) a b ≡ Some (bytes_in frames m)
text_is frames pmap a b m e = ap (option_map (λ (x : ℕ × Slot). bytes_of x.1)) (page_in frames pmap a b) ∙ text_by frames m (page_at pmap a b) e

-- a page with a frame before and after, and with the same text
same_frame : (old new : Shown) (x y m : ℕ) → frame_at old.pmap x y ≡ Some m → frame_at new.pmap x y ≡ Some m → IsTaken old.frames m → IsTaken new.frames m → text_at (state_of new).guests x y ≡ text_at (state_of old).guests x y → frame new.frames m ≡ frame old.frames m
same_frame old new x y m was is taken still text =
    let bytes : bytes_in new.frames m ≡ bytes_in old.frames m = same_Some _ _ (sym (text_is new.frames new.pmap x y m is) ∙ text ∙ text_is old.frames old.pmap x y m was) in
    bytes_are new.frames m still ∙ ap (λ (l : List ℕ). Some l) bytes ∙ sym (bytes_are old.frames m taken)

-- what becomes of the texts of pages: those of all pages but one stay
abbrev TextsBut : ℕ → ℕ → List Guest → List Guest → Type 0
TextsBut a b gs new = (g p : ℕ) → (g ≡ a → p ≡ b → ⊥) → text_at new g p ≡ text_at gs g p

all_but : (a b : ℕ) (gs new : List Guest) → SameTexts gs new → TextsBut a b gs new
all_but a b gs new same g p apart = same g p

set_but : (gs new : List Guest) (a b : ℕ) (slot : Slot) → new ≡ with_slot gs a b slot → TextsBut a b gs new
set_but gs new a b slot e g p apart = ap (λ (l : List Guest). text_at l g p) e ∙ other gs a b slot g p (λ f h. apart (sym f) (sym h))

still_same : (gs new : List Guest) → new ≡ gs → SameTexts gs new
still_same gs new e g p = ap (λ (l : List Guest). text_at l g p) e

-- A change of one page's frame, while the texts of the other pages stay, and its own does if it keeps its frame and the frame
-- wasn't written.
module _ (written : Option ℕ) (old new : Shown) (a b : ℕ) (whole : FramesOfPages new) (others : (x y : ℕ) → (x ≡ a → y ≡ b → ⊥) → frame_at new.pmap x y ≡ frame_at old.pmap x y) (texts : TextsBut a b (state_of old).guests (state_of new).guests) where
  abbrev OwnText : Type 0
  OwnText = (m : ℕ) → frame_at new.pmap a b ≡ Some m → written ≢ Some m → text_at (state_of new).guests a b ≡ text_at (state_of old).guests a b

  elsewhere : (m x y : ℕ) → (x ≡ a → y ≡ b → ⊥) → frame_at new.pmap x y ≡ Some m → IsTaken old.frames m → IsTaken new.frames m → frame new.frames m ≡ frame old.frames m
  elsewhere m x y apart is taken still = same_frame old new x y m (sym (others x y apart) ∙ is) is taken still (texts x y apart)

  named_same : (change : Change) → NamedFrame change old.frames a b old.pmap new.pmap → (change ≡ Keeps → OwnText) → (m : ℕ) → frame_at new.pmap a b ≡ Some m → IsTaken old.frames m → IsTaken new.frames m → written ≢ Some m → frame new.frames m ≡ frame old.frames m
  named_same Keeps named own m is taken still apart = same_frame old new a b m (sym named ∙ is) is taken still (own refl m is apart)
  named_same TakesFree named own m is taken still apart =
      let free : frame old.frames m ≡ None = ap (frame old.frames) (same_Some _ _ (sym is ∙ named.has)) ∙ named.was_free in
      absurd (false≢true (let P : Option (List ℕ) → Type 0 = λ o. IsSome o in subst P free taken))
  named_same JoinsAnother named own m is taken still apart =
      let theirs : frame_at new.pmap named.other named.place ≡ Some m = others named.other named.place named.apart ∙ named.theirs ∙ sym named.has ∙ is in
      elsewhere m named.other named.place named.apart theirs taken still
  named_same GivesUp named own m is taken still apart = absurd (none_some m (sym named ∙ is))

  bytes_stay : (change : Change) → NamedFrame change old.frames a b old.pmap new.pmap → (change ≡ Keeps → OwnText) → BytesStay written old new
  bytes_stay change named own = record { same = λ m taken still apart. let o = whole.owned m still in pick m taken still apart o.guest o.ppn (frame_is new.pmap o.guest o.ppn o.salt o.slot o.at ∙ o.frame) (cases_eq o.guest a) (cases_eq o.ppn b) } where
    pick : (m : ℕ) → IsTaken old.frames m → IsTaken new.frames m → written ≢ Some m → (x y : ℕ) → frame_at new.pmap x y ≡ Some m → ((x ≡ a) ⊎ (x ≡ a → ⊥)) → ((y ≡ b) ⊎ (y ≡ b → ⊥)) → frame new.frames m ≡ frame old.frames m
    pick m taken still apart x y is (inl e) (inl f) =
        let here : frame_at new.pmap a b ≡ Some m = ap (λ (i : ℕ). frame_at new.pmap i b) (sym e) ∙ ap (λ (i : ℕ). frame_at new.pmap x i) (sym f) ∙ is in
        named_same change named own m here taken still apart
    pick m taken still apart x y is (inl e) (inr n) = elsewhere m x y (λ _ q. n q) is taken still
    pick m taken still apart x y is (inr n) z = elsewhere m x y (λ q _. n q) is taken still

-- where no page changes its text
texts_stay : (written : Option ℕ) (old new : Shown) (a b : ℕ) (change : Change) → FramesOfPages new → NamedFrame change old.frames a b old.pmap new.pmap
    → ((x y : ℕ) → (x ≡ a → y ≡ b → ⊥) → frame_at new.pmap x y ≡ frame_at old.pmap x y) → SameTexts (state_of old).guests (state_of new).guests → BytesStay written old new
texts_stay written old new a b change whole named others same =
    bytes_stay written old new a b whole others (all_but a b _ _ same) change named (λ _ m _ _. same a b)

keeps_texts : (written : Option ℕ) (old new : Shown) → FramesOfPages new → AllKeep old.pmap new.pmap → (state_of new).guests ≡ (state_of old).guests → BytesStay written old new
keeps_texts written old new whole keep same = texts_stay written old new 0 0 Keeps whole (keep.keeps 0 0) (λ x y _. keep.keeps x y) (still_same _ _ same)

-- a store that was done and moved no frame was in place
in_place : (verdict : Verdict) → is_done verdict ≡ true → change_at verdict ≡ Keeps → keeps_own verdict ≡ true
in_place v.NoPage d k = absurd (false≢true d)
in_place v.Unmapped d k = absurd (false≢true d)
in_place v.Already d k = absurd (false≢true d)
in_place (v.Joined peers) d k = absurd (false≢true d)
in_place v.Paired d k = absurd (false≢true d)
in_place v.Hinted d k = absurd (false≢true d)
in_place v.Kept d k = absurd (false≢true d)
in_place v.Replaced d k = absurd (false≢true d)
in_place v.Ineligible d k = absurd (false≢true d)
in_place v.Mapped d k = cc
in_place v.Stored d k = refl
in_place v.Copied d k = cc
in_place v.Taken d k = refl
in_place v.NoFrame d k = absurd (false≢true d)
in_place (v.Bytes bytes) d k = absurd (false≢true d)
in_place (v.Released is_free) d k = absurd (false≢true d)
in_place (v.Totals report) d k = absurd (false≢true d)
in_place v.Closed d k = absurd (false≢true d)

written_is : (verdict : Verdict) (own : Option ℕ) → is_done verdict ≡ true → change_at verdict ≡ Keeps → written_by_store verdict own ≡ own
written_is verdict own d k = rw (in_place verdict d k) refl

-- How stores to a page end: refused, and nothing changes, or done, and the texts of the other pages stay.
data StoresEnd (gs : List Guest) (guest ppn : ℕ) (verdict : Verdict) (new : List Guest) : Type 0 where
  refused : is_done verdict ≡ false → new ≡ gs → StoresEnd gs guest ppn verdict new
  done : is_done verdict ≡ true → TextsBut guest ppn gs new → StoresEnd gs guest ppn verdict new

stores_stay : (old new : Shown) (guest ppn : ℕ) (verdict : Verdict) → FramesOfPages new → OthersKeep old.frames guest ppn verdict old.pmap new.pmap
    → StoresEnd (state_of old).guests guest ppn verdict (state_of new).guests → BytesStay (written_by_store verdict (frame_at new.pmap guest ppn)) old new
stores_stay old new guest ppn verdict whole stay (refused undone same) =
    texts_stay _ old new guest ppn (change_at verdict) whole stay.named stay.others (still_same _ _ same)
stores_stay old new guest ppn verdict whole stay (done did texts) =
    bytes_stay _ old new guest ppn whole stay.others texts (change_at verdict) stay.named (λ k m is apart. absurd (apart (written_is verdict _ did k ∙ is)))

stores_end_by : (gs : List Guest) (guest ppn : ℕ) (verdict verdict' : Verdict) (new new' : List Guest) → verdict' ≡ verdict → new' ≡ new → StoresEnd gs guest ppn verdict new → StoresEnd gs guest ppn verdict' new'
stores_end_by gs guest ppn verdict verdict' new new' e f (refused undone same) = refused (ap is_done e ∙ undone) (f ∙ same)
stores_end_by gs guest ppn verdict verdict' new new' e f (done did texts) = done (ap is_done e ∙ did) (λ g p apart. ap (λ (l : List Guest). text_at l g p) f ∙ texts g p apart)

-- one store
one_store : (total : ℕ) (gs : List Guest) (guest ppn at : ℕ) (bytes : List ℕ) → StoresEnd gs guest ppn (store_at total gs guest ppn at bytes).verdict (store_at total gs guest ppn at bytes).guests
one_store total gs guest ppn at bytes = pick (store_ends total gs guest ppn) where
  pick : Ends gs guest ppn (store_at total gs guest ppn) → StoresEnd gs guest ppn (store_at total gs guest ppn at bytes).verdict (store_at total gs guest ppn at bytes).guests
  pick (Ends.refused verdict undone is) =
      refused (ap (λ (o : Outcome). is_done o.verdict) (is at bytes) ∙ undone) (ap (λ (o : Outcome). o.guests) (is at bytes))
  pick (Ends.done salt slot hint verdict did here is) =
      done (ap (λ (o : Outcome). is_done o.verdict) (is at bytes) ∙ did) (set_but gs _ guest ppn _ (ap (λ (o : Outcome). o.guests) (is at bytes)))

-- how a release ends: nothing changes, or the page gives up its frame, and the texts of the other pages stay
data ReleaseEnds (gs : List Guest) (guest ppn : ℕ) (o : Outcome) : Type 0 where
  bare : o.guests ≡ gs → ReleaseEnds gs guest ppn o
  gave_up : change_at o.verdict ≡ GivesUp → o.guests ≡ with_slot gs guest ppn Unmapped → ReleaseEnds gs guest ppn o

released_ends : (gs : List Guest) (guest ppn salt : ℕ) (slot : Slot) → ReleaseEnds gs guest ppn (released gs guest ppn salt slot)
unfolding released
released_ends gs guest ppn salt Unmapped = bare refl
released_ends gs guest ppn salt (Private bytes hint) = gave_up refl refl
released_ends gs guest ppn salt (Shared bytes) = gave_up refl refl

on_page_released : (gs : List Guest) (guest ppn : ℕ) (o : Option (ℕ × Slot)) → ReleaseEnds gs guest ppn (on_page gs (λ salt slot. released gs guest ppn salt slot) o)
on_page_released gs guest ppn None = bare refl
on_page_released gs guest ppn (Some (salt, slot)) = released_ends gs guest ppn salt slot

release_stays : (old new : Shown) (guest ppn : ℕ) (verdict : Verdict) (o : Outcome) → FramesOfPages new → OthersKeep old.frames guest ppn verdict old.pmap new.pmap → o.guests ≡ (state_of new).guests → o.verdict ≡ verdict → ReleaseEnds (state_of old).guests guest ppn o → BytesStay None old new
release_stays old new guest ppn verdict o whole stay guests verdict_is (bare same) =
    texts_stay None old new guest ppn (change_at verdict) whole stay.named stay.others (still_same _ _ (sym guests ∙ same))
release_stays old new guest ppn verdict o whole stay guests verdict_is (gave_up gives set) =
    bytes_stay None old new guest ppn whole stay.others (set_but _ _ guest ppn Unmapped (sym guests ∙ set)) (change_at verdict) stay.named
    (λ k m is apart. absurd (not_kept (sym k ∙ ap change_at (sym verdict_is) ∙ gives))) where
      not_kept : Keeps ≡ GivesUp → ⊥
      not_kept e = cc

-- a proposal
proposal_same : (hash : ℕ → List ℕ → ℕ) (gs : List Guest) (guest ppn : ℕ) → SameTexts gs (at_page gs guest ppn (λ salt slot. proposed hash gs guest ppn salt slot)).guests
proposal_same hash gs guest ppn = (at_page_keeps gs guest ppn _ (λ salt slot h. proposed_keeps hash gs guest ppn salt slot h)).same

same_by : (gs mid new : List Guest) → new ≡ mid → SameTexts gs mid → SameTexts gs new
same_by gs mid new e same g p = ap (λ (l : List Guest). text_at l g p) e ∙ same g p

loads_nothing : (gs : List Guest) (f : ℕ → Slot → Outcome) (o : Option (ℕ × Slot)) → ((salt : ℕ) (slot : Slot) → (f salt slot).guests ≡ gs) → (on_page gs f o).guests ≡ gs
loads_nothing gs f None h = refl
loads_nothing gs f (Some (salt, slot)) h = h salt slot

-- each request
pub request_keeps_bytes : RequestKeepsBytes
unfolding step answered
request_keeps_bytes hash guest (Propose ppn) verdict old new whole h =
    texts_stay None old new guest ppn (change_at verdict) whole h.stay.named h.stay.others (same_by _ _ _ (ap (λ (s : Step). s.state.guests) h.step) (proposal_same hash (state_of old).guests guest ppn))
request_keeps_bytes hash guest (Store r) verdict old new whole h =
    stores_stay old new guest r.ppn verdict whole h.stay
    (stores_end_by _ guest r.ppn _ _ _ _ (ap (λ (s : Step). s.verdict) h.step) (ap (λ (s : Step). s.state.guests) h.step) (one_store (state_of old).total (state_of old).guests guest r.ppn r.at r.bytes))
request_keeps_bytes hash guest (Load r) verdict old new whole h =
    keeps_texts None old new whole h.stay (ap (λ (s : Step). s.state.guests) h.step ∙ loads_nothing (state_of old).guests _ (page_at (state_of old).guests guest r.ppn) (λ salt slot. refl))
request_keeps_bytes hash guest (Release ppn) verdict old new whole h =
    release_stays old new guest ppn verdict (at_page (state_of old).guests guest ppn (λ salt slot. released (state_of old).guests guest ppn salt slot)) whole h.stay (sym (ap (λ (s : Step). s.state.guests) h.step)) (sym (ap (λ (s : Step). s.verdict) h.step))
    (on_page_released (state_of old).guests guest ppn (page_at (state_of old).guests guest ppn))
request_keeps_bytes hash guest Count verdict old new whole h = keeps_texts None old new whole h.stay (ap (λ (s : Step). s.state.guests) h.step)
request_keeps_bytes hash guest Close verdict old new whole h = keeps_texts None old new whole h.stay (ap (λ (s : Step). s.state.guests) h.step)

pub taking_back_keeps_bytes : TakingBackKeepsBytes
taking_back_keeps_bytes hash guest ppn returned before after old new whole h = request_keeps_bytes hash guest (Release ppn) (release_verdict returned) old new whole h.applies

-- the stores of a page, one after the other
module _ (hash : ℕ → List ℕ → ℕ) (guest ppn : ℕ) where
  abbrev after : State → List Request → List Guest
  after s requests = (state_after hash s (entries_of guest requests)).guests

  stores_but : (n at : ℕ) (bytes : List ℕ) (s : State) → TextsBut guest ppn s.guests (after s (stores_from n ppn at bytes))
  unfolding state_after stores_from step answered
  stores_but zero at bytes s g p apart = refl
  stores_but (suc n) at bytes s g p apart =
      let next : State = (step hash s guest (Store (record { ppn = ppn; at = at; bytes = take 64 bytes }))).state in
      stores_but n (at + 64) (drop 64 bytes) next g p apart ∙ first_but (one_store s.total s.guests guest ppn at (take 64 bytes)) g p apart where
        first_but : {verdict : Verdict} {new : List Guest} → StoresEnd s.guests guest ppn verdict new → TextsBut guest ppn s.guests new
        first_but (refused undone same) g p apart = still_same _ _ same g p
        first_but (done did texts) g p apart = texts g p apart

  stores_refused : (n at entries total : ℕ) (gs : List Guest) (bytes : List ℕ) (verdict : Verdict) → ((k : ℕ) (l : List ℕ) → store_at total gs guest ppn k l ≡ stays gs verdict) → after (record { total = total; guests = gs; entries = entries }) (stores_from n ppn at bytes) ≡ gs
  unfolding state_after stores_from step answered
  stores_refused zero at entries total gs bytes verdict is = refl
  stores_refused (suc n) at entries total gs bytes verdict is =
      ap (λ (o : Outcome). after (record { total = total; guests = o.guests; entries = entries + 1 }) (stores_from n ppn (at + 64) (drop 64 bytes))) (is at (take 64 bytes))
      ∙ stores_refused n (at + 64) (entries + 1) total gs (drop 64 bytes) verdict is

  first_verdict : (s : State) (page : List ℕ) → (page_stored hash s guest ppn page).verdict ≡ (store_at s.total s.guests guest ppn 0 (take 64 page)).verdict
  unfolding page_stored verdicts_of stores_from step answered
  first_verdict s page = refl

  page_ends : (s : State) (page : List ℕ) → StoresEnd s.guests guest ppn (page_stored hash s guest ppn page).verdict (page_stored hash s guest ppn page).state.guests
  unfolding page_stored
  page_ends s page = pick (store_ends s.total s.guests guest ppn) where
    pick : Ends s.guests guest ppn (store_at s.total s.guests guest ppn) → StoresEnd s.guests guest ppn (page_stored hash s guest ppn page).verdict (page_stored hash s guest ppn page).state.guests
    pick (Ends.refused verdict undone is) =
        refused (ap is_done (first_verdict s page) ∙ ap (λ (o : Outcome). is_done o.verdict) (is 0 (take 64 page)) ∙ undone) (stores_refused 64 0 s.entries s.total s.guests page verdict is)
    pick (Ends.done salt slot hint verdict did here is) =
        done (ap is_done (first_verdict s page) ∙ ap (λ (o : Outcome). is_done o.verdict) (is 0 (take 64 page)) ∙ did) (stores_but 64 0 page s)

pub stores_keep_bytes : StoresKeepBytes
stores_keep_bytes hash guest ppn page verdict old new whole h =
    stores_stay old new guest ppn verdict whole h.stay
    (stores_end_by _ guest ppn _ _ _ _ (ap (λ (s : Step). s.verdict) h.step) (ap (λ (s : Step). s.state.guests) h.step) (page_ends hash guest ppn (state_of old) page))

-- both changes kept the frame
both_keep : (first second : Change) → both_changes first second ≡ Keeps → (first ≡ Keeps) × (second ≡ Keeps)
both_keep first Keeps e = (e, refl)
both_keep first TakesFree e = cc
both_keep first JoinsAnother e = cc
both_keep first GivesUp e = cc

kept_apart : (verdict : Verdict) → change_at verdict ≡ Keeps → has_joined verdict ≡ false
kept_apart v.NoPage k = refl
kept_apart v.Unmapped k = refl
kept_apart v.Already k = refl
kept_apart (v.Joined peers) k = cc
kept_apart v.Paired k = cc
kept_apart v.Hinted k = refl
kept_apart v.Kept k = refl
kept_apart v.Replaced k = refl
kept_apart v.Ineligible k = refl
kept_apart v.Mapped k = refl
kept_apart v.Stored k = refl
kept_apart v.Copied k = refl
kept_apart v.Taken k = refl
kept_apart v.NoFrame k = refl
kept_apart (v.Bytes bytes) k = refl
kept_apart (v.Released is_free) k = refl
kept_apart (v.Totals report) k = refl
kept_apart v.Closed k = refl

lend_written_is : (stored verdict : Verdict) (own : Option ℕ) → is_done stored ≡ true → both_changes (change_at stored) (change_at verdict) ≡ Keeps → written_by_lend stored verdict own ≡ own
lend_written_is stored verdict own did e =
    let both = both_keep (change_at stored) (change_at verdict) e in
    rw (kept_apart verdict both.1) (written_is stored own did both.0)

-- the step of a lend, by what its stores came to
lent_done : (hash : ℕ → List ℕ → ℕ) (s : State) (guest ppn : ℕ) (page : List ℕ) → is_done (page_stored hash s guest ppn page).verdict ≡ true → page_lent hash s guest ppn page ≡ step hash (page_stored hash s guest ppn page).state guest (Propose ppn)
unfolding page_lent
lent_done hash s guest ppn page did = rw did refl

lent_refused : (hash : ℕ → List ℕ → ℕ) (s : State) (guest ppn : ℕ) (page : List ℕ) → is_done (page_stored hash s guest ppn page).verdict ≡ false → page_lent hash s guest ppn page ≡ page_stored hash s guest ppn page
unfolding page_lent
lent_refused hash s guest ppn page undone = rw undone refl

step_same : (hash : ℕ → List ℕ → ℕ) (s : State) (guest ppn : ℕ) → SameTexts s.guests (step hash s guest (Propose ppn)).state.guests
unfolding step answered
step_same hash s guest ppn = proposal_same hash s.guests guest ppn

module _ (hash : ℕ → List ℕ → ℕ) (guest ppn : ℕ) (page : List ℕ) (lent : Lent) (old new : Shown) (whole : FramesOfPages new) (h : Lends hash guest ppn page lent old new) where
  abbrev stored : Step
  stored = page_stored hash (state_of old) guest ppn page

  now : (state_of new).guests ≡ (page_lent hash (state_of old) guest ppn page).state.guests
  now = ap (λ (s : Step). s.state.guests) h.step

  lend_stays : StoresEnd (state_of old).guests guest ppn stored.verdict stored.state.guests → BytesStay (written_by_lend stored.verdict lent.verdict (frame_at new.pmap guest ppn)) old new
  lend_stays (refused undone same) =
      texts_stay _ old new guest ppn (both_changes (change_at stored.verdict) (change_at lent.verdict)) whole h.stay.named h.stay.others
      (still_same _ _ (now ∙ ap (λ (s : Step). s.state.guests) (lent_refused hash (state_of old) guest ppn page undone) ∙ same))
  lend_stays (done did texts) =
      let after : (state_of new).guests ≡ (step hash stored.state guest (Propose ppn)).state.guests = now ∙ ap (λ (s : Step). s.state.guests) (lent_done hash (state_of old) guest ppn page did) in
      let but : TextsBut guest ppn (state_of old).guests (state_of new).guests = λ g p apart. same_by _ _ _ after (step_same hash stored.state guest ppn) g p ∙ texts g p apart in
      bytes_stay _ old new guest ppn whole h.stay.others but (both_changes (change_at stored.verdict) (change_at lent.verdict)) h.stay.named (λ k m is apart. absurd (apart (lend_written_is stored.verdict lent.verdict _ did k ∙ is)))

pub lend_keeps_bytes : LendKeepsBytes
lend_keeps_bytes hash guest ppn page lent old new whole h = lend_stays hash guest ppn page lent old new whole h (page_ends hash guest ppn (state_of old) page)
