-- Which frames pages have after a change of one page, and after changes in a row.
use Rattle.std.proofs.Common.{◌≡◌, ◌≢◌, ℕ, Option, Some, None, refl, ap, sym, ◌∙◌, ◌⊎◌, inl, inr}
use Rattle.std.specs.Option.{option_and_then}
use Rattle.std.proofs.lemmas.Bool.{cases_eq}
use Rattle.page_model.specs.Pages.{SlotOf, page_at, with_slot}
use Rattle.page_model.specs.declared.verdict.Verdict.{Verdict}
use Rattle.page_model.proofs.Places.{at_same, at_other}
use Rattle.machine_frames.specs.FrameMap.{FrameMap, frame}
use Rattle.merge_core.specs.Pmap.{Pmap, frame_of}
use Rattle.merge_core.specs.Stays.{frame_at, Change, Keeps, TakesFree, JoinsAnother, GivesUp, change_at, NamedFrame, AllKeep, OthersKeep}

abbrev frame_in : Option (ℕ × SlotOf ℕ) → Option ℕ
frame_in o = option_and_then (λ x. frame_of x.1) o

-- this page has this frame, or none, and each other page has the frame that it had
pub record OneMoves (guest ppn : ℕ) (to : Option ℕ) (old new : Pmap) : Type 0 where
  pub named : frame_at new guest ppn ≡ to
  pub others : (other place : ℕ) → (other ≡ guest → place ≡ ppn → ⊥) → frame_at new other place ≡ frame_at old other place

-- the frame of a page
pub frame_is : (pmap : Pmap) (a b salt : ℕ) (slot : SlotOf ℕ) → page_at pmap a b ≡ Some (salt, slot) → frame_at pmap a b ≡ frame_of slot
frame_is pmap a b salt slot at = ap frame_in at

-- one page changes
pub one_moves : (pmap : Pmap) (a b salt : ℕ) (old new : SlotOf ℕ) → page_at pmap a b ≡ Some (salt, old) → OneMoves a b (frame_of new) pmap (with_slot pmap a b new)
one_moves pmap a b salt old new at = record {
  named = ap frame_in (at_same pmap a b salt old new at);
  others = λ x y apart. ap frame_in (at_other pmap a b new x y apart);
}

-- a page that keeps its own frame
pub moves_nowhere : (a b : ℕ) (to : Option ℕ) (old new : Pmap) → OneMoves a b to old new → frame_at old a b ≡ to → AllKeep old new
moves_nowhere a b to old new one e = record { keeps = λ x y. pick x y (cases_eq x a) (cases_eq y b) } where
  pick : (x y : ℕ) → ((x ≡ a) ⊎ (x ≡ a → ⊥)) → ((y ≡ b) ⊎ (y ≡ b → ⊥)) → frame_at new x y ≡ frame_at old x y
  pick x y (inl f) (inl g) = ap (λ (i : ℕ). frame_at new i y) f ∙ ap (λ (i : ℕ). frame_at new a i) g ∙ one.named ∙ sym e ∙ sym (ap (λ (i : ℕ). frame_at old i y) f ∙ ap (λ (i : ℕ). frame_at old a i) g)
  pick x y (inl f) (inr n) = one.others x y (λ _ q. n q)
  pick x y (inr n) z = one.others x y (λ q _. n q)

-- a page changes and keeps its frame
pub one_keeps : (pmap : Pmap) (a b salt : ℕ) (old new : SlotOf ℕ) → page_at pmap a b ≡ Some (salt, old) → frame_of new ≡ frame_of old → AllKeep pmap (with_slot pmap a b new)
one_keeps pmap a b salt old new at e = moves_nowhere a b (frame_of new) pmap (with_slot pmap a b new) (one_moves pmap a b salt old new at) (frame_is pmap a b salt old at ∙ sym e)

pub all_same : (old new : Pmap) → new ≡ old → AllKeep old new
all_same old new e = record { keeps = λ x y. ap (λ (pmap : Pmap). frame_at pmap x y) e }

pub keep_keep : (one two three : Pmap) → AllKeep one two → AllKeep two three → AllKeep one three
keep_keep one two three k l = record { keeps = λ x y. l.keeps x y ∙ k.keeps x y }

pub keep_move : (a b : ℕ) (to : Option ℕ) (one two three : Pmap) → AllKeep one two → OneMoves a b to two three → OneMoves a b to one three
keep_move a b to one two three k m = record { named = m.named; others = λ x y apart. m.others x y apart ∙ k.keeps x y }

pub move_keep : (a b : ℕ) (to : Option ℕ) (one two three : Pmap) → OneMoves a b to one two → AllKeep two three → OneMoves a b to one three
move_keep a b to one two three m k = record { named = k.keeps a b ∙ m.named; others = λ x y apart. k.keeps x y ∙ m.others x y apart }

pub move_move : (a b : ℕ) (from to : Option ℕ) (one two three : Pmap) → OneMoves a b from one two → OneMoves a b to two three → OneMoves a b to one three
move_move a b from to one two three m n = record { named = n.named; others = λ x y apart. n.others x y apart ∙ m.others x y apart }

-- what each verdict asks of such a change
pub all_stay : (free : FrameMap) (a b : ℕ) (verdict : Verdict) (old new : Pmap) → change_at verdict ≡ Keeps → AllKeep old new → OthersKeep free a b verdict old new
all_stay free a b verdict old new e k = record { named = rw e (k.keeps a b); others = λ x y _. k.keeps x y }

pub takes_free : (free : FrameMap) (a b m : ℕ) (verdict : Verdict) (old new : Pmap) → change_at verdict ≡ TakesFree → frame free m ≡ None → OneMoves a b (Some m) old new → OthersKeep free a b verdict old new
takes_free free a b m verdict old new e f one = record { named = rw e (record { mpn = m; has = one.named; was_free = f }); others = one.others }

pub joins_another : (free : FrameMap) (a b c d m : ℕ) (verdict : Verdict) (old new : Pmap) → change_at verdict ≡ JoinsAnother → (c ≡ a → d ≡ b → ⊥) → frame_at old c d ≡ Some m → OneMoves a b (Some m) old new → OthersKeep free a b verdict old new
joins_another free a b c d m verdict old new e apart f one = record { named = rw e (record { other = c; place = d; mpn = m; apart = apart; theirs = f; has = one.named }); others = one.others }

pub gives_up : (free : FrameMap) (a b : ℕ) (verdict : Verdict) (old new : Pmap) → change_at verdict ≡ GivesUp → OneMoves a b None old new → OthersKeep free a b verdict old new
gives_up free a b verdict old new e one = record { named = rw e one.named; others = one.others }

-- a request after a change that moves no frame
kept_named : (c : Change) (free : FrameMap) (a b : ℕ) (one two three : Pmap) → AllKeep one two → NamedFrame c free a b two three → NamedFrame c free a b one three
kept_named Keeps free a b one two three k n = n ∙ k.keeps a b
kept_named TakesFree free a b one two three k n = n
kept_named JoinsAnother free a b one two three k n = record { other = n.other; place = n.place; mpn = n.mpn; apart = n.apart; theirs = sym (k.keeps n.other n.place) ∙ n.theirs; has = n.has }
kept_named GivesUp free a b one two three k n = n

pub keep_then : (free : FrameMap) (a b : ℕ) (verdict : Verdict) (one two three : Pmap) → AllKeep one two → OthersKeep free a b verdict two three → OthersKeep free a b verdict one three
keep_then free a b verdict one two three k o = record { named = kept_named (change_at verdict) free a b one two three k o.named; others = λ x y apart. o.others x y apart ∙ k.keeps x y }

pub none_moves : (free : FrameMap) (a b : ℕ) (verdict : Verdict) (pmap : Pmap) → change_at verdict ≡ Keeps → OthersKeep free a b verdict pmap pmap
none_moves free a b verdict pmap e = all_stay free a b verdict pmap pmap e (all_same pmap pmap refl)

-- a change of one page, known by what stands there after it
pub moved_to : (old new : Pmap) (a b salt : ℕ) (slot : SlotOf ℕ) → new ≡ with_slot old a b slot → page_at new a b ≡ Some (salt, slot) → OneMoves a b (frame_of slot) old new
moved_to old new a b salt slot e at = record {
  named = frame_is new a b salt slot at;
  others = λ x y apart. ap (λ (pmap : Pmap). frame_at pmap x y) e ∙ ap frame_in (at_other old a b slot x y apart);
}

-- two changes of one page
pub moved_twice : (pmap : Pmap) (a b salt : ℕ) (old mid new : SlotOf ℕ) → page_at pmap a b ≡ Some (salt, old) → OneMoves a b (frame_of new) pmap (with_slot (with_slot pmap a b mid) a b new)
moved_twice pmap a b salt old mid new at =
    let then = at_same pmap a b salt old mid at in
    move_move a b (frame_of mid) (frame_of new) pmap (with_slot pmap a b mid) (with_slot (with_slot pmap a b mid) a b new) (one_moves pmap a b salt old mid at) (one_moves (with_slot pmap a b mid) a b salt mid new then)

-- pages of two frames are two pages
pub other_page : (pmap : Pmap) (x y a b m n : ℕ) → frame_at pmap x y ≡ Some m → frame_at pmap a b ≡ Some n → m ≢ n → x ≡ a → y ≡ b → ⊥
other_page pmap x y a b m n e f differ p q = differ (same (sym e ∙ ap (λ (i : ℕ). frame_at pmap i y) p ∙ ap (λ (i : ℕ). frame_at pmap a i) q ∙ f)) where
  same : Some m ≡ Some n → m ≡ n
  same h = cc
