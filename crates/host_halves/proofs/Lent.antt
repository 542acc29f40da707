-- What lends leave of a client's slots.
use Rattle.std.proofs.Common.{◌≡◌, ◌∙◌, ℕ, ◌+◌, ◌*◌, ◌/◌, ◌%◌, ◌<◌, ◌≤◌, ◌⊎◌, inl, inr, Bool, true, false, cond, not, ◌&&◌, List, [], ◌∷◌, ◌++◌, replicate, length, zero, suc, Option, Some, None, Result, Ok, Err, refl, ap, sym, subst, arith}
use Rattle.std.specs.Prelude.{nat_eq}
use Rattle.std.proofs.Math.Nat.{div-add-mod}
use Rattle.std.proofs.lemmas.Nat.{div-mul-add, mod-mul-add}
use Rattle.std.proofs.lemmas.Bool.{cases_Bool, cases_eq, cases_lt, eqb-true, eqb-false, eq-eqb, false≢true}
use Rattle.std.proofs.lemmas.List.{length-set}
use Rattle.host_messages.specs.declared.item.Lent.{Lent}
use Rattle.lent_slots.specs.declared.holding.Holding.{Holding}
use Rattle.lent_slots.specs.Slots.{MachineView, holding, lent_slots}
use Rattle.lent_slots.proofs.SlotLists.{got_within, got_holding, set_same, set_other}
use Rattle.share_domain.specs.declared.fault.LendFault.{LendFault}
use Rattle.share_domain.specs.declared.holding.Loan.{Loan}
use Rattle.share_domain.specs.declared.number.TheConstants.{SLOTS_APART, NO_FRAME}
use Rattle.share_domain.specs.Domains.{DomainView, machine_at, held_in, region_frame, LendsIn}
use Rattle.share_domain.specs.Numbers.{slot_by, slot_number}
use Rattle.share_domain.specs.Totals.{slots_of}
use Rattle.host_sessions.proofs.Spared.{machine_other}
use Rattle.host_sessions.specs.Turns.{Answers, Lends, LendsOne, LendsInTurn, LendsSome, lent_by, not_lent}
use Rattle.session_laws.specs.World.{is_loan_of, given_to, or_else, AreFree}
use Rattle.host_halves.specs.Halves.{frame_if, frame_for, HasNumbers}

-- ---- numbers of slots

number_again : (s : ℕ) → slot_number (slot_by s) ≡ s
number_again s = let e : SLOTS_APART * (s / SLOTS_APART) + s % SLOTS_APART ≡ s = div-add-mod s SLOTS_APART in omega (arith, e)

-- ---- one page

record LentOne (client : ℕ) (l : Lent) (old mid : DomainView) : Type 0 where
  numbers : HasNumbers mid
  held : (s : ℕ) → frame_for client mid s ≡ or_else (given_to (l ∷ []) s) (frame_for client old s)
  free : (s f : ℕ) → given_to (l ∷ []) s ≡ Some f → frame_for client old s ≡ None

same_lent : (client : ℕ) (l : Lent) (old mid : DomainView) → HasNumbers old → l ≡ not_lent → mid ≡ old → LentOne client l old mid
same_lent client l old mid numbers e f = record {
  numbers = subst HasNumbers (sym f) numbers;
  held = λ s. ap (λ (d : DomainView). frame_for client d s) f ∙ sym (ap (λ (x : Lent). or_else (given_to (x ∷ []) s) (frame_for client old s)) e ∙ ap (λ (o : Option ℕ). or_else o (frame_for client old s)) (none s));
  free = λ s g given. absurd (neither (given_to (l ∷ []) s) g (ap (λ (x : Lent). given_to (x ∷ []) s) e ∙ none s) given);
} where
  none : (s : ℕ) → given_to (not_lent ∷ []) s ≡ None
  none s = ap (λ (b : Bool). cond (not b && nat_eq 0 s) (Some NO_FRAME) None) (eq-eqb NO_FRAME NO_FRAME refl)

  neither : (o : Option ℕ) (g : ℕ) → o ≡ None → o ≡ Some g → ⊥
  neither o g a b = cc

-- the page that got a slot
module _ (client m : ℕ) (page : List ℕ) (loan : Loan) (old mid : DomainView) (numbers : HasNumbers old) (lends : LendsIn m client page loan old mid) where
  ppn_within : loan.slot.ppn < length (machine_at old.machines m).slots
  ppn_within = got_within (machine_at old.machines m).slots loan.slot.ppn None lends.lends.was_free

  slots_now : (machine_at mid.machines m).slots ≡ lent_slots client loan.slot.ppn lends.mpn (machine_at old.machines m).slots
  slots_now = ap (λ (v : MachineView). v.slots) lends.lends.now

  frames_now : mid.frames ≡ old.frames
  frames_now = ap (λ (d : DomainView). d.frames) lends.rest

  -- its slot
  held_there : holding (machine_at mid.machines m).slots loan.slot.ppn ≡ Some (record { client = client; frame = lends.mpn })
  held_there = ap (λ (l : List (Option Holding)). holding l loan.slot.ppn) slots_now ∙ set_same (machine_at old.machines m).slots loan.slot.ppn (Some (record { client = client; frame = lends.mpn })) ppn_within

  held_before : holding (machine_at old.machines m).slots loan.slot.ppn ≡ None
  held_before = got_holding (machine_at old.machines m).slots loan.slot.ppn None lends.lends.was_free

  -- another one
  machine_else : (k : ℕ) → (k ≡ m → ⊥) → machine_at mid.machines k ≡ machine_at old.machines k
  machine_else k ne = ap (λ (d : DomainView). machine_at d.machines k) lends.rest ∙ machine_other old.machines m k (machine_at mid.machines m) ne

  held_else : (k ppn : ℕ) → ((k ≡ m) × (ppn ≡ loan.slot.ppn) → ⊥) → holding (machine_at mid.machines k).slots ppn ≡ holding (machine_at old.machines k).slots ppn
  held_else k ppn ne = pick (cases_eq k m) where
    pick : (k ≡ m) ⊎ (k ≡ m → ⊥) → holding (machine_at mid.machines k).slots ppn ≡ holding (machine_at old.machines k).slots ppn
    pick (inr other) = ap (λ (v : MachineView). holding v.slots ppn) (machine_else k other)
    pick (inl same) =
        ap (λ (i : ℕ). holding (machine_at mid.machines i).slots ppn) same
        ∙ ap (λ (l : List (Option Holding)). holding l ppn) slots_now
        ∙ set_other (machine_at old.machines m).slots loan.slot.ppn ppn (Some (record { client = client; frame = lends.mpn })) (λ e. ne (same, e))
        ∙ ap (λ (i : ℕ). holding (machine_at old.machines i).slots ppn) (sym same)

  numbers_now : HasNumbers mid
  numbers_now = record { slots = λ k. slots k (cases_eq k m); frames = λ k mpn lt. frames k mpn (cases_eq k m) lt } where
    slots : (k : ℕ) → (k ≡ m) ⊎ (k ≡ m → ⊥) → length (machine_at mid.machines k).slots ≤ SLOTS_APART
    slots k (inl same) =
        let size : length (machine_at mid.machines m).slots ≡ length (machine_at old.machines m).slots =
        ap (λ (l : List (Option Holding)). length l) slots_now ∙ length-set (machine_at old.machines m).slots loan.slot.ppn (Some (record { client = client; frame = lends.mpn })) in
        subst (λ (i : ℕ). length (machine_at mid.machines i).slots ≤ SLOTS_APART) (sym same) (subst (λ (n : ℕ). n ≤ SLOTS_APART) (sym size) (numbers.slots m))
    slots k (inr other) = subst (λ (v : MachineView). length v.slots ≤ SLOTS_APART) (sym (machine_else k other)) (numbers.slots k)

    region : (k mpn : ℕ) → nat_eq (region_frame old.frames k mpn) NO_FRAME ≡ false → nat_eq (region_frame mid.frames k mpn) NO_FRAME ≡ false
    region k mpn e = subst (λ (n : ℕ). nat_eq (region_frame n k mpn) NO_FRAME ≡ false) (sym frames_now) e

    frames : (k mpn : ℕ) → (k ≡ m) ⊎ (k ≡ m → ⊥) → mpn < length (machine_at mid.machines k).frames → nat_eq (region_frame mid.frames k mpn) NO_FRAME ≡ false
    frames k mpn (inl same) lt =
        let size : length (machine_at mid.machines m).frames ≡ length (machine_at old.machines m).frames =
        ap (λ (v : MachineView). length v.frames) lends.lends.now ∙ length-set (machine_at old.machines m).frames lends.mpn (Some page) in
        let at_m : mpn < length (machine_at mid.machines m).frames = subst (λ (i : ℕ). mpn < length (machine_at mid.machines i).frames) same lt in
        subst (λ (i : ℕ). nat_eq (region_frame mid.frames i mpn) NO_FRAME ≡ false) (sym same) (region m mpn (numbers.frames m mpn (subst (λ (n : ℕ). mpn < n) size at_m)))
    frames k mpn (inr other) lt = region k mpn (numbers.frames k mpn (subst (λ (v : MachineView). mpn < length v.frames) (machine_else k other) lt))

  -- by the slot's number
  slot_is : (s : ℕ) → nat_eq (slot_number loan.slot) s ≡ true → (loan.slot.machine ≡ m) → ((slot_by s).machine ≡ m) × ((slot_by s).ppn ≡ loan.slot.ppn)
  slot_is s e is_m =
      let lt : loan.slot.ppn < SLOTS_APART = (let a : loan.slot.ppn < length (machine_at old.machines m).slots = ppn_within in let b : length (machine_at old.machines m).slots ≤ SLOTS_APART = numbers.slots m in omega arith) in
      let same : s ≡ slot_number loan.slot = sym (eqb-true (slot_number loan.slot) s e) in (
        ap (λ (n : ℕ). n / SLOTS_APART) same ∙ div-mul-add loan.slot.machine SLOTS_APART loan.slot.ppn lt ∙ is_m,
        ap (λ (n : ℕ). n % SLOTS_APART) same ∙ mod-mul-add loan.slot.machine SLOTS_APART loan.slot.ppn lt,
      )

  frame_there : (s : ℕ) → ((slot_by s).machine ≡ m) × ((slot_by s).ppn ≡ loan.slot.ppn) → frame_for client mid s ≡ Some loan.frame
  frame_there s is =
      ap (λ (k : ℕ). frame_if client mid.frames k (holding (machine_at mid.machines k).slots (slot_by s).ppn)) is.0
      ∙ ap (λ (k : ℕ). frame_if client mid.frames m (holding (machine_at mid.machines m).slots k)) is.1
      ∙ ap (λ (o : Option Holding). frame_if client mid.frames m o) held_there
      ∙ ap (λ (b : Bool). cond b (Some (region_frame mid.frames m lends.mpn)) None) (eq-eqb client client refl)
      ∙ ap (λ (n : ℕ). Some (region_frame n m lends.mpn)) frames_now
      ∙ ap (λ (n : ℕ). Some n) (sym lends.number)

  free_there : (s : ℕ) → ((slot_by s).machine ≡ m) × ((slot_by s).ppn ≡ loan.slot.ppn) → frame_for client old s ≡ None
  free_there s is =
      ap (λ (k : ℕ). frame_if client old.frames k (holding (machine_at old.machines k).slots (slot_by s).ppn)) is.0
      ∙ ap (λ (k : ℕ). frame_if client old.frames m (holding (machine_at old.machines m).slots k)) is.1
      ∙ ap (λ (o : Option Holding). frame_if client old.frames m o) held_before

  frame_else : (s : ℕ) → (((slot_by s).machine ≡ m) × ((slot_by s).ppn ≡ loan.slot.ppn) → ⊥) → frame_for client mid s ≡ frame_for client old s
  frame_else s ne =
      ap (λ (n : ℕ). frame_if client n (slot_by s).machine (held_in mid.machines (slot_by s))) frames_now
      ∙ ap (λ (o : Option Holding). frame_if client old.frames (slot_by s).machine o) (held_else (slot_by s).machine (slot_by s).ppn ne)

  frame_is_one : nat_eq loan.frame NO_FRAME ≡ false
  frame_is_one = subst (λ (n : ℕ). nat_eq n NO_FRAME ≡ false) (sym lends.number) (numbers.frames m lends.mpn lends.lends.within)

  -- the number of the slot is another one's
  not_there : (s : ℕ) → nat_eq (slot_number loan.slot) s ≡ false → loan.slot.machine ≡ m → ((slot_by s).machine ≡ m) × ((slot_by s).ppn ≡ loan.slot.ppn) → ⊥
  not_there s e is_m is =
      let at : slot_number (slot_by s) ≡ slot_number loan.slot =
      ap (λ (k : ℕ). k * SLOTS_APART + (slot_by s).ppn) (is.0 ∙ sym is_m) ∙ ap (λ (k : ℕ). loan.slot.machine * SLOTS_APART + k) is.1 in
      eqb-false (slot_number loan.slot) s e (sym at ∙ number_again s)

abbrev lent_of : Loan → Lent
lent_of loan = record { slot = slot_number loan.slot; frame = loan.frame; sharers = loan.sharers }

given_then : (b c : Bool) (f : ℕ) → b ≡ false → cond (not b && c) (Some f) None ≡ cond c (Some f) None
given_then true c f e = cc
given_then false c f e = refl

lent_page : (client : ℕ) (page : List ℕ) (loan : Loan) (old mid : DomainView) → HasNumbers old → LendsIn loan.slot.machine client page loan old mid → LentOne client (lent_of loan) old mid
lent_page client page loan old mid numbers lends = record {
  numbers = numbers_now client loan.slot.machine page loan old mid numbers lends;
  held = λ s. held s (cases_Bool (nat_eq (slot_number loan.slot) s));
  free = λ s f e. free s f e (cases_Bool (nat_eq (slot_number loan.slot) s));
} where
  given : (s : ℕ) → given_to (lent_of loan ∷ []) s ≡ cond (nat_eq (slot_number loan.slot) s) (Some loan.frame) None
  given s = given_then (nat_eq loan.frame NO_FRAME) (nat_eq (slot_number loan.slot) s) loan.frame (frame_is_one client loan.slot.machine page loan old mid numbers lends)

  there : (s : ℕ) → nat_eq (slot_number loan.slot) s ≡ true → given_to (lent_of loan ∷ []) s ≡ Some loan.frame
  there s e = given s ∙ ap (λ (b : Bool). cond b (Some loan.frame) None) e

  none : (s : ℕ) → nat_eq (slot_number loan.slot) s ≡ false → given_to (lent_of loan ∷ []) s ≡ None
  none s e = given s ∙ ap (λ (b : Bool). cond b (Some loan.frame) None) e

  neither : (o : Option ℕ) (g : ℕ) → o ≡ None → o ≡ Some g → ⊥
  neither o g a b = cc

  held : (s : ℕ) → (nat_eq (slot_number loan.slot) s ≡ true) ⊎ (nat_eq (slot_number loan.slot) s ≡ false) → frame_for client mid s ≡ or_else (given_to (lent_of loan ∷ []) s) (frame_for client old s)
  held s (inl e) =
      frame_there client loan.slot.machine page loan old mid numbers lends s (slot_is client loan.slot.machine page loan old mid numbers lends s e refl)
      ∙ sym (ap (λ (o : Option ℕ). or_else o (frame_for client old s)) (there s e))
  held s (inr e) =
      frame_else client loan.slot.machine page loan old mid numbers lends s (not_there client loan.slot.machine page loan old mid numbers lends s e refl)
      ∙ sym (ap (λ (o : Option ℕ). or_else o (frame_for client old s)) (none s e))

  free : (s f : ℕ) → given_to (lent_of loan ∷ []) s ≡ Some f → (nat_eq (slot_number loan.slot) s ≡ true) ⊎ (nat_eq (slot_number loan.slot) s ≡ false) → frame_for client old s ≡ None
  free s f g (inl e) = free_there client loan.slot.machine page loan old mid numbers lends s (slot_is client loan.slot.machine page loan old mid numbers lends s e refl)
  free s f g (inr e) = absurd (neither (given_to (lent_of loan ∷ []) s) f (none s e) g)

lent_one : (salt client quota : ℕ) (page : List ℕ) (l : Lent) (old mid : DomainView) → HasNumbers old → LendsOne salt client quota page l old mid → LentOne client l old mid
lent_one salt client quota page l old mid numbers one = pick (cases_lt (slots_of client old.machines) quota) where
  by : (answer : Result Loan LendFault) → Answers salt client page answer old mid → l ≡ lent_by answer → LentOne client l old mid
  by (Ok loan) found e = subst (λ (x : Lent). LentOne client x old mid) (sym e) (lent_page client page loan old mid numbers found.lends)
  by (Err fault) refused e = same_lent client l old mid numbers e refused.1

  pick : (slots_of client old.machines < quota) ⊎ (quota ≤ slots_of client old.machines) → LentOne client l old mid
  pick (inl lt) = let lends : Lends salt client page l old mid = one.within lt in by lends.answer lends.answers lends.lent-is
  pick (inr le) = same_lent client l old mid numbers (one.full le).0 (one.full le).1

-- ---- several pages

-- no slot is given twice
abbrev pub AreApart : List Lent → Type 0
AreApart [] = Unit {0}
AreApart (l ∷ ls) = ((s f : ℕ) → is_loan_of s l ≡ true → given_to ls s ≡ Some f → ⊥) × AreApart ls

pub record LentAll (client : ℕ) (loans : List Lent) (old new : DomainView) : Type 0 where
  pub held : (s : ℕ) → frame_for client new s ≡ or_else (given_to loans s) (frame_for client old s)
  pub free : AreFree loans (frame_for client old)
  pub apart : AreApart loans

and_one : (client : ℕ) (l : Lent) (loans : List Lent) (old mid new : DomainView) → LentOne client l old mid → LentAll client loans mid new → LentAll client (l ∷ loans) old new
and_one client l loans old mid new one rest = record { held = λ s. held s (is_loan_of s l) refl; free = λ s f e. free s f (is_loan_of s l) refl e; apart = (λ s f mine given. neither (frame_for client mid s) l.frame (rest.free s f given) (mine_now s mine), rest.apart) } where
  neither : (o : Option ℕ) (g : ℕ) → o ≡ None → o ≡ Some g → ⊥
  neither o g a b = cc

  -- the first one's slot after it
  mine_now : (s : ℕ) → is_loan_of s l ≡ true → frame_for client mid s ≡ Some l.frame
  mine_now s e = one.held s ∙ ap (λ (o : Option ℕ). or_else o (frame_for client old s)) (ap (λ (b : Bool). cond b (Some l.frame) None) e)

  -- what one of the others gives isn't held after the first
  first : (o p : Option ℕ) (f : ℕ) → ((g : ℕ) → o ≡ Some g → p ≡ None) → p ≡ Some f → or_else o p ≡ Some f
  first None p f h e = e
  first (Some g) p f h e = absurd (neither p f (h g refl) e)

  held : (s : ℕ) (b : Bool) → is_loan_of s l ≡ b → frame_for client new s ≡ or_else (cond (is_loan_of s l) (Some l.frame) (given_to loans s)) (frame_for client old s)
  held s true e =
      rest.held s ∙ first (given_to loans s) (frame_for client mid s) l.frame (λ g x. rest.free s g x) (mine_now s e)
      ∙ sym (ap (λ (b : Bool). or_else (cond b (Some l.frame) (given_to loans s)) (frame_for client old s)) e)
  held s false e =
      let mine : given_to (l ∷ []) s ≡ None = ap (λ (b : Bool). cond b (Some l.frame) None) e in
      let now : frame_for client mid s ≡ frame_for client old s = one.held s ∙ ap (λ (o : Option ℕ). or_else o (frame_for client old s)) mine in
      rest.held s ∙ ap (λ (o : Option ℕ). or_else (given_to loans s) o) now
      ∙ sym (ap (λ (b : Bool). or_else (cond b (Some l.frame) (given_to loans s)) (frame_for client old s)) e)

  free : (s f : ℕ) (b : Bool) → is_loan_of s l ≡ b → cond (is_loan_of s l) (Some l.frame) (given_to loans s) ≡ Some f → frame_for client old s ≡ None
  free s f true e given = one.free s l.frame (ap (λ (b : Bool). cond b (Some l.frame) None) e)
  free s f false e given =
      let mine : given_to (l ∷ []) s ≡ None = ap (λ (b : Bool). cond b (Some l.frame) None) e in
      let now : frame_for client mid s ≡ frame_for client old s = one.held s ∙ ap (λ (o : Option ℕ). or_else o (frame_for client old s)) mine in
      sym now ∙ rest.free s f (sym (ap (λ (b : Bool). cond b (Some l.frame) (given_to loans s)) e) ∙ given)

pub lent_all : (salt client quota : ℕ) (pages : List (List ℕ)) (loans : List Lent) (old new : DomainView) → HasNumbers old → LendsInTurn salt client quota pages loans old new → LentAll client loans old new
unfolding LendsInTurn
lent_all salt client quota [] [] old new numbers e = record { held = λ s. ap (λ (d : DomainView). frame_for client d s) e; free = λ s f x. cc; apart = tt }
lent_all salt client quota (page ∷ pages) [] old new numbers e = absurd e
lent_all salt client quota [] (l ∷ loans) old new numbers e = absurd e
lent_all salt client quota (page ∷ pages) (l ∷ loans) old new numbers e =
    let one : LentOne client l old e.0 = lent_one salt client quota page l old e.0 numbers e.1 in
    and_one client l loans old e.0 new one (lent_all salt client quota pages loans e.0 new one.numbers e.2)

-- ---- pages that may not be lent

pub nothing_given : (ls : List Lent) (s : ℕ) → given_to (not_lent ∷ ls) s ≡ given_to ls s
nothing_given ls s = ap (λ (b : Bool). cond (not b && nat_eq 0 s) (Some NO_FRAME) (given_to ls s)) (eq-eqb NO_FRAME NO_FRAME refl)

not_given : (s : ℕ) → is_loan_of s not_lent ≡ false
not_given s = ap (λ (b : Bool). not b && nat_eq 0 s) (eq-eqb NO_FRAME NO_FRAME refl)

others_give : (front : List Lent) (n s : ℕ) → given_to (front ++ replicate n not_lent) s ≡ given_to front s
others_give [] zero s = refl
others_give [] (suc n) s = nothing_given (replicate n not_lent) s ∙ others_give [] n s
others_give (l ∷ ls) n s = ap (λ (o : Option ℕ). cond (is_loan_of s l) (Some l.frame) o) (others_give ls n s)

others_apart : (front : List Lent) (n : ℕ) → AreApart front → AreApart (front ++ replicate n not_lent)
others_apart [] zero apart = tt
others_apart [] (suc n) apart = (λ s f mine given. false≢true (sym (not_given s) ∙ mine), others_apart [] n apart)
others_apart (l ∷ ls) n apart = (λ s f mine given. apart.0 s f mine (sym (others_give ls n s) ∙ given), others_apart ls n apart.1)

pub lent_some : (salt client quota others : ℕ) (pages : List (List ℕ)) (loans : List Lent) (old new : DomainView) → HasNumbers old → LendsSome salt client quota pages others loans old new → LentAll client loans old new
lent_some salt client quota others pages loans old new numbers some =
    let all : LentAll client some.lent old new = lent_all salt client quota pages some.lent old new numbers some.lends in
    let whole : LentAll client (some.lent ++ replicate others not_lent) old new = record {
      held = λ s. all.held s ∙ ap (λ (o : Option ℕ). or_else o (frame_for client old s)) (sym (others_give some.lent others s));
      free = λ s f e. all.free s f (sym (others_give some.lent others s) ∙ e);
      apart = others_apart some.lent others all.apart;
    } in
    subst (λ (ls : List Lent). LentAll client ls old new) (sym some.loans-is) whole
