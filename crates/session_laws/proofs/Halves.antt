-- What each call does to slots that fit.
use Rattle.std.proofs.Common.{◌≡◌, ◌∙◌, ℕ, ◌⊎◌, inl, inr, Bool, true, false, cond, List, [], drop, ◌++◌, Option, Some, None, refl, ap, sym}
use Rattle.std.specs.Prelude.{nat_eq}
use Rattle.std.proofs.lemmas.Bool.{cases_Bool, eqb-true, eqb-false}
use Rattle.host_messages.specs.declared.client.Wanted.{Wanted}
use Rattle.host_messages.specs.declared.item.Lent.{Lent}
use Rattle.session_laws.specs.World.{HostSide, Said, has, given_to, or_else, unless, with_loans, without, lost_by, resumed, lent, released, next_loans, AreFree}
use Rattle.session_laws.specs.Sound.{Sub, OnlyHellos, Uncounted, IsKnown, Fits}
use Rattle.session_laws.proofs.Lists.{differs, has_left, has_right, has_neither, drop_has_none, next_other}

-- ---- one slot

either_given : (o p : Option ℕ) (f : ℕ) → or_else o p ≡ Some f → (o ≡ Some f) ⊎ ((o ≡ None) × (p ≡ Some f))
either_given (Some g) p f e = inl e
either_given None p f e = inr (refl, e)

given_first : (o p : Option ℕ) (f : ℕ) → o ≡ Some f → or_else o p ≡ Some f
given_first (Some g) p f e = e
given_first None p f e = cc

given_second : (o p : Option ℕ) (f : ℕ) → o ≡ None → p ≡ Some f → or_else o p ≡ Some f
given_second (Some g) p f e h = cc
given_second None p f e h = h

not_taken : (o p : Option ℕ) (f : ℕ) → unless o p ≡ Some f → (o ≡ None) × (p ≡ Some f)
not_taken (Some g) p f e = absurd (cc)
not_taken None p f e = (refl, e)

left_there : (o p : Option ℕ) (f : ℕ) → o ≡ None → p ≡ Some f → unless o p ≡ Some f
left_there (Some g) p f e h = cc
left_there None p f e h = h

-- what isn't any frame is none
is_none : (o : Option ℕ) → ((f : ℕ) → o ≡ Some f → ⊥) → o ≡ None
is_none None h = refl
is_none (Some f) h = absurd (h f refl)

not_both : (o : Option ℕ) (f : ℕ) → o ≡ Some f → o ≡ None → ⊥
not_both o f e h = cc

pub kept_slot : (b : Bool) (o : Option ℕ) (f : ℕ) → cond b None o ≡ Some f → (b ≡ false) × (o ≡ Some f)
kept_slot true o f e = absurd (cc)
kept_slot false o f e = (refl, e)

keep_slot : (b : Bool) (o : Option ℕ) (f : ℕ) → b ≡ false → o ≡ Some f → cond b None o ≡ Some f
keep_slot true o f e h = cc
keep_slot false o f e h = h

none_still : (b : Bool) (o : Option ℕ) → o ≡ None → cond b None o ≡ None
none_still true o e = refl
none_still false o e = e

-- what is in no list that has it isn't there
pub hidden_by : (b : Bool) (o : Option ℕ) → b ≡ true → ((f : ℕ) → o ≡ Some f → b ≡ false) → o ≡ None
hidden_by b o on h = is_none o (λ f e. differs b on (h f e))

-- ---- two counts

pub not_both_counts : (a n : ℕ) → a ≡ n → a ≡ next_loans n → ⊥
not_both_counts a n e f = next_other n (sym f ∙ e)

-- ---- other messages are under way

pub moved : (h : HostSide) (loans : ℕ) (wanted : Option Wanted) (unheard : List ℕ) (shown : ℕ → Option ℕ) (stale now : List Said) →
    Fits h loans wanted unheard shown stale → (Uncounted h loans wanted shown stale → OnlyHellos wanted now) → Fits h loans wanted unheard shown now
moved h loans wanted unheard shown stale now f later = record { shows = f.shows; apart = f.apart; known = f.known; counts = go f.counts } where
  go : (h.loans ≡ loans) ⊎ Uncounted h loans wanted shown stale → (h.loans ≡ loans) ⊎ Uncounted h loans wanted shown now
  go (inl e) = inl e
  go (inr u) = inr (record { more = u.more; there = u.there; hidden = u.hidden; later = later u })

-- ---- the client's calls

-- slots are given up
pub gives_fits : (h : HostSide) (loans : ℕ) (wanted : Option Wanted) (unheard slots : List ℕ) (shown : ℕ → Option ℕ) (stale : List Said) →
    Fits h loans wanted unheard shown stale → Fits h loans wanted (unheard ++ slots) (without slots shown) stale
gives_fits h loans wanted unheard slots shown stale fits = record {
  shows = λ s f e. fits.shows s f (kept_slot (has slots s) (shown s) f e).1;
  apart = λ s f e.
      let k : (has slots s ≡ false) × (shown s ≡ Some f) = kept_slot (has slots s) (shown s) f e in
      has_neither unheard slots s (fits.apart s f k.1) k.0;
  known = λ s f e. known s f (fits.known s f e);
  counts = counts fits.counts;
} where
  known : (s f : ℕ) → IsKnown h loans unheard shown s f → IsKnown h loans (unheard ++ slots) (without slots shown) s f
  known s f (inl e) = pick (cases_Bool (has slots s)) where
    pick : (has slots s ≡ true) ⊎ (has slots s ≡ false) → IsKnown h loans (unheard ++ slots) (without slots shown) s f
    pick (inl on) = inr (inl (has_right unheard slots s on))
    pick (inr off) = inl (keep_slot (has slots s) (shown s) f off e)
  known s f (inr (inl u)) = inr (inl (has_left unheard slots s u))
  known s f (inr (inr t)) = inr (inr t)

  counts : (h.loans ≡ loans) ⊎ Uncounted h loans wanted shown stale → (h.loans ≡ loans) ⊎ Uncounted h loans wanted (without slots shown) stale
  counts (inl e) = inl e
  counts (inr u) = inr (record { more = u.more; there = u.there; hidden = λ s f e. none_still (has slots s) (shown s) (u.hidden s f e); later = u.later })

-- a reply says that the host has heard of the first ones
pub heard_fits : (h : HostSide) (loans : ℕ) (wanted : Option Wanted) (unheard : List ℕ) (said : ℕ) (shown : ℕ → Option ℕ) (stale : List Said) →
    Fits h loans wanted unheard shown stale → h.loans ≡ loans →
    ((s f : ℕ) → h.held s ≡ Some f → has unheard s ≡ true → has (drop said unheard) s ≡ true) → Fits h loans wanted (drop said unheard) shown stale
heard_fits h loans wanted unheard said shown stale fits equal heard = record {
  shows = fits.shows;
  apart = λ s f e. drop_has_none said unheard s (fits.apart s f e);
  known = λ s f e. known s f e (fits.known s f e);
  counts = inl equal;
} where
  known : (s f : ℕ) → h.held s ≡ Some f → IsKnown h loans unheard shown s f → IsKnown h loans (drop said unheard) shown s f
  known s f e (inl k) = inl k
  known s f e (inr (inl u)) = inr (inl (heard s f e u))
  known s f e (inr (inr t)) = inr (inr t)

-- loans are counted
pub loans_fit : (h : HostSide) (loans : ℕ) (wanted now : Option Wanted) (unheard rest : List ℕ) (shown : ℕ → Option ℕ) (ls : List Lent) (stale : List Said) →
    Fits h loans wanted unheard shown stale → h.loans ≡ next_loans loans → h.last ≡ ls → rest ≡ [] →
    ((s f : ℕ) → h.held s ≡ Some f → has unheard s ≡ true → given_to ls s ≡ Some f) → Fits h (next_loans loans) now rest (with_loans ls shown) stale
loans_fit h loans wanted now unheard rest shown ls stale fits more last done given = counted fits.counts where
  counted : (h.loans ≡ loans) ⊎ Uncounted h loans wanted shown stale → Fits h (next_loans loans) now rest (with_loans ls shown) stale
  counted (inl e) = absurd (not_both_counts h.loans loans e more)
  counted (inr u) = record { shows = λ s f e. shows s f (either_given (given_to ls s) (shown s) f e); apart = λ s f e. free s; known = λ s f e. inl (known s f e (fits.known s f e)); counts = inl more } where
    there : (s f : ℕ) → given_to ls s ≡ Some f → given_to h.last s ≡ Some f
    there s f e = ap (λ (xs : List Lent). given_to xs s) last ∙ e

    shows : (s f : ℕ) → (given_to ls s ≡ Some f) ⊎ ((given_to ls s ≡ None) × (shown s ≡ Some f)) → h.held s ≡ Some f
    shows s f (inl e) = u.there s f (there s f e)
    shows s f (inr e) = fits.shows s f e.1

    free : (s : ℕ) → has rest s ≡ false
    free s = ap (λ (xs : List ℕ). has xs s) done

    known : (s f : ℕ) → h.held s ≡ Some f → IsKnown h loans unheard shown s f → or_else (given_to ls s) (shown s) ≡ Some f
    known s f e (inl k) = given_second (given_to ls s) (shown s) f (is_none (given_to ls s) (λ g x. not_both (shown s) f k (u.hidden s g (there s g x)))) k
    known s f e (inr (inl k)) = given_first (given_to ls s) (shown s) f (given s f e k)
    known s f e (inr (inr k)) = given_first (given_to ls s) (shown s) f (sym (ap (λ (xs : List Lent). given_to xs s) last) ∙ k.1)

-- ---- the host's calls

-- the session is taken up: no loans are lost, or those of the last reply
pub resumed_fits : (h : HostSide) (loans : ℕ) (wanted : Option Wanted) (unheard : List ℕ) (shown : ℕ → Option ℕ) (stale now : List Said) →
    Fits h loans wanted unheard shown stale → Fits (resumed loans h) loans wanted unheard shown now
resumed_fits h loans wanted unheard shown stale now fits = record {
  shows = λ s f e. shows s f e (cases_Bool (nat_eq loans h.loans)) fits.counts;
  apart = fits.apart;
  known = λ s f e. known s f e (cases_Bool (nat_eq loans h.loans));
  counts = inl refl;
} where
  none_lost : (s : ℕ) → nat_eq loans h.loans ≡ true → given_to (lost_by loans h) s ≡ None
  none_lost s on = ap (λ (b : Bool). given_to (cond b [] h.last) s) on

  all_lost : (s : ℕ) → nat_eq loans h.loans ≡ false → given_to (lost_by loans h) s ≡ given_to h.last s
  all_lost s off = ap (λ (b : Bool). given_to (cond b [] h.last) s) off

  shows : (s f : ℕ) → shown s ≡ Some f → (nat_eq loans h.loans ≡ true) ⊎ (nat_eq loans h.loans ≡ false) → (h.loans ≡ loans) ⊎ Uncounted h loans wanted shown stale →
      unless (given_to (lost_by loans h) s) (h.held s) ≡ Some f
  shows s f e (inl on) c = left_there (given_to (lost_by loans h) s) (h.held s) f (none_lost s on) (fits.shows s f e)
  shows s f e (inr off) (inl equal) = absurd (eqb-false loans h.loans off (sym equal))
  shows s f e (inr off) (inr u) =
      left_there (given_to (lost_by loans h) s) (h.held s) f
      (is_none (given_to (lost_by loans h) s) (λ g x. not_both (shown s) f e (u.hidden s g (sym (all_lost s off) ∙ x)))) (fits.shows s f e)

  known : (s f : ℕ) → unless (given_to (lost_by loans h) s) (h.held s) ≡ Some f → (nat_eq loans h.loans ≡ true) ⊎ (nat_eq loans h.loans ≡ false) → IsKnown (resumed loans h) loans unheard shown s f
  known s f e way = pick (fits.known s f there.1) way where
    there : (given_to (lost_by loans h) s ≡ None) × (h.held s ≡ Some f)
    there = not_taken (given_to (lost_by loans h) s) (h.held s) f e

    pick : IsKnown h loans unheard shown s f → (nat_eq loans h.loans ≡ true) ⊎ (nat_eq loans h.loans ≡ false) → IsKnown (resumed loans h) loans unheard shown s f
    pick (inl k) w = inl k
    pick (inr (inl k)) w = inr (inl k)
    pick (inr (inr k)) (inl on) = absurd (not_both_counts h.loans loans (sym (eqb-true loans h.loans on)) k.0)
    pick (inr (inr k)) (inr off) = absurd (not_both (given_to (lost_by loans h) s) f (all_lost s off ∙ k.1) there.0)

-- pages are lent, by slots that were free
pub lent_fits : (h : HostSide) (loans : ℕ) (wanted : Option Wanted) (unheard : List ℕ) (shown : ℕ → Option ℕ) (ls : List Lent) (stale now : List Said) →
    Fits h loans wanted unheard shown stale → h.loans ≡ loans → AreFree ls h.held → OnlyHellos wanted now → Fits (lent ls h) loans wanted unheard shown now
lent_fits h loans wanted unheard shown ls stale now fits equal free later = record {
  shows = λ s f e. given_second (given_to ls s) (h.held s) f (is_none (given_to ls s) (λ g x. not_both (h.held s) f (fits.shows s f e) (free s g x))) (fits.shows s f e);
  apart = fits.apart;
  known = λ s f e. known s f (either_given (given_to ls s) (h.held s) f e);
  counts = inr (record {
    more = ap (λ (k : ℕ). next_loans k) equal;
    there = λ s f e. given_first (given_to ls s) (h.held s) f e;
    hidden = λ s f e. is_none (shown s) (λ g x. not_both (h.held s) g (fits.shows s g x) (free s f e));
    later = later;
  });
} where
  old : (s f : ℕ) → IsKnown h loans unheard shown s f → IsKnown (lent ls h) loans unheard shown s f
  old s f (inl k) = inl k
  old s f (inr (inl k)) = inr (inl k)
  old s f (inr (inr k)) = absurd (not_both_counts h.loans loans equal k.0)

  known : (s f : ℕ) → (given_to ls s ≡ Some f) ⊎ ((given_to ls s ≡ None) × (h.held s ≡ Some f)) → IsKnown (lent ls h) loans unheard shown s f
  known s f (inl e) = inr (inr (ap (λ (k : ℕ). next_loans k) equal, e))
  known s f (inr e) = old s f (fits.known s f e.1)

-- slots that were given up are released
pub released_fits : (h : HostSide) (loans : ℕ) (wanted : Option Wanted) (unheard slots : List ℕ) (shown : ℕ → Option ℕ) (stale now : List Said) →
    Fits h loans wanted unheard shown stale → h.loans ≡ loans → Sub slots unheard → Fits (released slots h) loans wanted unheard shown now
released_fits h loans wanted unheard slots shown stale now fits equal sub = record {
  shows = λ s f e. keep_slot (has slots s) (h.held s) f (other s f e (cases_Bool (has slots s))) (fits.shows s f e);
  apart = fits.apart;
  known = λ s f e. fits.known s f (kept_slot (has slots s) (h.held s) f e).1;
  counts = inl equal;
} where
  other : (s f : ℕ) → shown s ≡ Some f → (has slots s ≡ true) ⊎ (has slots s ≡ false) → has slots s ≡ false
  other s f e (inl on) = absurd (differs (has unheard s) (sub s on) (fits.apart s f e))
  other s f e (inr off) = off
