-- What releases leave of a client's slots.
use Rattle.std.proofs.Common.{◌≡◌, ◌∙◌, ℕ, ◌+◌, ◌*◌, ◌⊎◌, inl, inr, Bool, true, false, cond, ◌&&◌, ◌||◌, List, [], ◌∷◌, map, Option, Some, None, refl, ap, sym}
use Rattle.std.specs.Prelude.{nat_eq}
use Rattle.std.proofs.Math.Nat.{div-add-mod}
use Rattle.std.proofs.lemmas.Bool.{cases_Bool, eqb-true, eqb-false}
use Rattle.host_messages.specs.declared.item.Lent.{Lent}
use Rattle.lent_slots.specs.declared.holding.Holding.{Holding}
use Rattle.lent_slots.specs.Slots.{is_of}
use Rattle.share_domain.specs.declared.holding.Slot.{Slot}
use Rattle.share_domain.specs.declared.number.TheConstants.{SLOTS_APART}
use Rattle.share_domain.specs.Domains.{DomainView, with_machines, with_released, held_in, region_frame, after_release}
use Rattle.share_domain.specs.Numbers.{slot_by}
use Rattle.host_halves.proofs.Freed.{other_held, own_held}
use Rattle.host_sessions.specs.declared.session.Begun.{Begun}
use Rattle.host_sessions.specs.Table.{lost_of}
use Rattle.host_sessions.specs.Turns.{after_releases, is_lent, slots_in, back_by, kept_of, back_of}
use Rattle.session_laws.specs.World.{HostSide, has, given_to, or_else, unless, next_loans, lost_by}
use Rattle.host_halves.specs.Halves.{frame_if, frame_for, BeginsHalf, ReleasesHalf, ResumesHalf, LendsHalf, TakesBackHalf}
use Rattle.host_halves.proofs.Back.{back_again, kept_free}
use Rattle.host_halves.proofs.Lent.{LentAll, lent_some}

-- ---- one release

-- two numbers of one slot are the same
number_of : (x s : ℕ) → slot_by s ≡ slot_by x → s ≡ x
number_of x s e =
    sym (div-add-mod s SLOTS_APART)
    ∙ ap (λ (t : Slot). SLOTS_APART * t.machine + t.ppn) e
    ∙ div-add-mod x SLOTS_APART

same_frames : (client : ℕ) (slot : Slot) (d : DomainView) → (after_release client slot d).frames ≡ d.frames
same_frames client slot d = pick (is_of client (held_in d.machines slot)) where
  pick : (b : Bool) → (let x : DomainView = cond b (with_machines d (with_released slot d.machines)) d in x.frames) ≡ d.frames
  pick true = refl
  pick false = refl

-- where the slot isn't the client's the domain stays
stays : (client : ℕ) (slot : Slot) (d : DomainView) → is_of client (held_in d.machines slot) ≡ false → after_release client slot d ≡ d
stays client slot d e = ap (λ (b : Bool). cond b (with_machines d (with_released slot d.machines)) d) e

pub not_its : (client frames machine : ℕ) (o : Option Holding) → is_of client o ≡ false → frame_if client frames machine o ≡ None
not_its client frames machine None e = refl
not_its client frames machine (Some h) e = ap (λ (b : Bool). cond b (Some (region_frame frames machine h.frame)) None) e

-- the slot itself
own_frame : (client x : ℕ) (d : DomainView) → frame_for client (after_release client (slot_by x) d) x ≡ None
own_frame client x d = pick (cases_Bool (is_of client (held_in d.machines (slot_by x)))) where
  pick : (is_of client (held_in d.machines (slot_by x)) ≡ true) ⊎ (is_of client (held_in d.machines (slot_by x)) ≡ false) → frame_for client (after_release client (slot_by x) d) x ≡ None
  pick (inl e) = ap (λ (o : Option Holding). frame_if client (after_release client (slot_by x) d).frames (slot_by x).machine o) (own_held d client (slot_by x) e)
  pick (inr e) = ap (λ (a : DomainView). frame_for client a x) (stays client (slot_by x) d e) ∙ not_its client d.frames (slot_by x).machine (held_in d.machines (slot_by x)) e

-- another one
other_frame : (client x s : ℕ) (d : DomainView) → (s ≡ x → ⊥) → frame_for client (after_release client (slot_by x) d) s ≡ frame_for client d s
other_frame client x s d apart =
    ap (λ (n : ℕ). frame_if client n (slot_by s).machine (held_in (after_release client (slot_by x) d).machines (slot_by s))) (same_frames client (slot_by x) d)
    ∙ ap (λ (o : Option Holding). frame_if client d.frames (slot_by s).machine o) (other_held d client (slot_by x) (slot_by s) (λ e. apart (number_of x s e)))

one_released : (client x s : ℕ) (d : DomainView) → frame_for client (after_release client (slot_by x) d) s ≡ cond (nat_eq x s) None (frame_for client d s)
one_released client x s d = pick (cases_Bool (nat_eq x s)) where
  pick : (nat_eq x s ≡ true) ⊎ (nat_eq x s ≡ false) → frame_for client (after_release client (slot_by x) d) s ≡ cond (nat_eq x s) None (frame_for client d s)
  pick (inl e) =
      ap (λ (k : ℕ). frame_for client (after_release client (slot_by x) d) k) (sym (eqb-true x s e)) ∙ own_frame client x d
      ∙ sym (ap (λ (b : Bool). cond b None (frame_for client d s)) e)
  pick (inr e) = other_frame client x s d (λ k. eqb-false x s e (sym k)) ∙ sym (ap (λ (b : Bool). cond b None (frame_for client d s)) e)

-- ---- several

twice : (a b : Bool) (o : Option ℕ) → cond b None (cond a None o) ≡ cond (a || b) None o
twice true true o = refl
twice true false o = refl
twice false b o = refl

all_released : (client : ℕ) (slots : List ℕ) (d : DomainView) (s : ℕ) → frame_for client (after_releases client slots d) s ≡ cond (has slots s) None (frame_for client d s)
unfolding after_releases
all_released client [] d s = refl
all_released client (x ∷ xs) d s =
    all_released client xs (after_release client (slot_by x) d) s
    ∙ ap (λ (o : Option ℕ). cond (has xs s) None o) (one_released client x s d)
    ∙ twice (nat_eq x s) (has xs s) (frame_for client d s)

pub releases_half : ReleasesHalf
releases_half b last slots d h half = record {
  name = half.name;
  loans = half.loans;
  last-is = half.last-is;
  held = λ s. ap (λ (o : Option ℕ). cond (has slots s) None o) (half.held s) ∙ sym (all_released b.client slots d s);
}

-- ---- a session is taken up

-- loans that are taken back are slots that are released
one_back : (b : Bool) (x s f : ℕ) (xs : List ℕ) (rest o : Option ℕ) → (c : Bool) → nat_eq x s ≡ c → unless rest o ≡ cond (has xs s) None o →
    unless (cond (b && c) (Some f) rest) o ≡ cond (has (cond b (x ∷ xs) xs) s) None o
one_back true x s f xs rest o true e so = sym (ap (λ (k : Bool). cond (k || has xs s) None o) e)
one_back true x s f xs rest o false e so = so ∙ sym (ap (λ (k : Bool). cond (k || has xs s) None o) e)
one_back false x s f xs rest o c e so = so

taken_back : (ls : List Lent) (s : ℕ) (o : Option ℕ) → unless (given_to ls s) o ≡ cond (has (slots_in ls) s) None o
unfolding slots_in
taken_back [] s o = refl
taken_back (l ∷ ls) s o = one_back (is_lent l) l.slot s l.frame (slots_in ls) (given_to ls s) o (nat_eq l.slot s) refl (taken_back ls s o)

lost_same : (b : Begun) (loans : ℕ) (last : List Lent) (h : HostSide) → h.loans ≡ b.loans → h.last ≡ last → lost_by loans h ≡ lost_of b loans last
lost_same b loans last h e f =
    ap (λ (n : ℕ). cond (nat_eq loans n) [] h.last) e
    ∙ ap (λ (xs : List Lent). cond (nat_eq loans b.loans) [] xs) f

pub resumes_half : ResumesHalf
resumes_half b loans last d h half = record {
  name = half.name;
  loans = refl;
  last-is = refl;
  held = λ s.
      taken_back (lost_by loans h) s (h.held s)
      ∙ ap (λ (xs : List Lent). cond (has (slots_in xs) s) None (h.held s)) (lost_same b loans last h half.loans half.last-is)
      ∙ ap (λ (o : Option ℕ). cond (has (slots_in (lost_of b loans last)) s) None o) (half.held s)
      ∙ sym (all_released b.client (slots_in (lost_of b loans last)) d s);
}

-- ---- pages are lent

pub lends_half : LendsHalf
lends_half salt quota others b last pages loans old new h numbers half turns = (
  record {
    name = half.name;
    loans = ap (λ (n : ℕ). next_loans n) half.loans;
    last-is = refl;
    held = λ s. ap (λ (o : Option ℕ). or_else (given_to loans s) o) (half.held s) ∙ sym (all.held s);
  },
  λ s f e. half.held s ∙ all.free s f e,
) where
  all : LentAll b.client loans old new
  all = lent_some salt b.client quota others pages loans old new numbers turns

-- ---- loans are taken back

pub takes_back_half : TakesBackHalf
takes_back_half salt quota others b last pages loans frames old mid h numbers half turns = (
  record {
    name = half.name;
    loans = ap (λ (n : ℕ). next_loans n) half.loans;
    last-is = refl;
    held = λ s.
        ap (λ (o : Option ℕ). or_else (given_to (kept_of frames loans) s) o) (half.held s)
        ∙ sym (back_again frames loans s (frame_for b.client old s) all.apart (λ f e. all.free s f e))
        ∙ taken_back (map (back_by frames) loans) s (or_else (given_to loans s) (frame_for b.client old s))
        ∙ ap (λ (o : Option ℕ). cond (has (back_of frames loans) s) None o) (sym (all.held s))
        ∙ sym (all_released b.client (back_of frames loans) mid s);
  },
  λ s f e. half.held s ∙ kept_free frames loans s (frame_for b.client old s) all.apart (λ g x. all.free s g x) f e,
) where
  all : LentAll b.client loans old mid
  all = lent_some salt b.client quota others pages loans old mid numbers turns

-- ---- a session begins

pub begins_half : BeginsHalf
begins_half name client d none = record { name = refl; loans = refl; last-is = refl; held = λ s. sym (none s) }
