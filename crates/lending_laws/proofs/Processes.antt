-- Each window of a process is in a history of its own, and no two windows have one slot.
use Rattle.std.proofs.Common.{◌≡◌, ◌∙◌, ◌⊎◌, ℕ, ◌+◌, ◌<◌, Bool, true, false, cond, List, [], ◌∷◌, inl, inr, Option, Some, None, refl, ap, sym, subst}
use Rattle.std.specs.Prelude.{nat_eq, slice_get, unwrap_or}
use Rattle.std.specs.Option.{option_map_or}
use Rattle.std.proofs.lemmas.Bool.{eqb-false, eqb-true}
use Rattle.page_lender.specs.Decisions.{account}
use Rattle.page_lender.specs.Events.{done_events}
use Rattle.page_lender.specs.declared.belief.Belief.TheVariants.{Leaving}
use Rattle.page_lender.specs.declared.order.Order.{Order}
use Rattle.page_lender.specs.declared.order.Outcome.{Outcome}
use Rattle.page_lender.specs.declared.order.Outcome.TheVariants.{Done, Lent, Refused, Unknown}
use Rattle.window_events.specs.Played.{played}
use Rattle.window_events.specs.Windows.{Mappings, shown_in, step}
use Rattle.window_events.specs.declared.event.Event.{Event}
use Rattle.window_pages.specs.Bytes.{belief_of}
use Rattle.window_pages.specs.declared.page.WindowPage.{WindowPage}
use Rattle.lending_laws.specs.Histories as own
use Rattle.lending_laws.specs.Histories.{Begins, CallsAt, CarriesOut, DetachesAt, Given, History, IsToldAt, NextComes, Pending, Reads, slots_after, stored_after}
use Rattle.lending_laws.specs.Processes.{Closes, EachPageOfAllIsRead, EachSlotIsOneWindows, EachWindowIsAlone, GivesApart, HappensBeside, IsAlone, IsToldIn, LieApart, NoSlotOfAllIsLost, NoneOfAllIsReleasedShown, Opens, OthersStay, Process, ProcessHistory, Span, WindowStays, begins, calls, carries_out, closes, detaches, happens, is_told, may_give, moment_of, moment_with, next_comes, opens}
use Rattle.lending_laws.specs.Slots.{slot_of}
use Rattle.lending_laws.proofs.Kept.{differs, each_order_is_due, each_page_is_read}
use Rattle.lending_laws.proofs.Outcomes.{Apart, apart_own, done_apart, unstored}
use Rattle.lending_laws.proofs.Slots.{no_slot_is_lost, none_is_released_shown, releases_own, slot_at}

-- ---- where a window stays

window_moved : (g : (ℕ → Bool) → ℕ → Bool) (first count k : ℕ) (stored : ℕ → ℕ) (old new : Process) (w : Mappings) → WindowStays k old new → new.world ≡ w →
    History g first count (record { pages = old.pages k; orders = old.orders k; slots = old.slots k; stored = stored; world = w }) → History g first count (moment_with k stored new)
window_moved g first count k stored old new w s e h =
    subst (λ v. History g first count (record { pages = new.pages k; orders = new.orders k; slots = new.slots k; stored = stored; world = v })) (sym e)
    (subst (λ v. History g first count (record { pages = new.pages k; orders = new.orders k; slots = v; stored = stored; world = w })) (sym s.slots)
    (subst (λ v. History g first count (record { pages = new.pages k; orders = v; slots = old.slots k; stored = stored; world = w })) (sym s.orders)
    (subst (λ v. History g first count (record { pages = v; orders = old.orders k; slots = old.slots k; stored = stored; world = w })) (sym s.pages) h)))

alone_stays : (f : Bool) (spans : ℕ → Span) (k : ℕ) (old new : Process) → WindowStays k old new → new.stored ≡ old.stored → new.world ≡ old.world → IsAlone f spans k old → IsAlone f spans k new
alone_stays f spans k old new s l e a = record {
  stored = a.stored;
  agrees = λ i n. a.agrees i n ∙ ap (λ v. v ((spans k).first + i)) (sym l);
  history = window_moved (may_give f) (spans k).first (spans k).count k a.stored old new old.world s e a.history;
}

-- what an order of another window does is events of other pages, one after the other
record Beside (g : (ℕ → Bool) → ℕ → Bool) (first count : ℕ) (pages : List WindowPage) (orders : ℕ → Pending) (slots : ℕ → Bool) (was : ℕ → ℕ) (w : Mappings) : Type 0 where
  stored : ℕ → ℕ
  agrees : (i : ℕ) → i < count → stored (first + i) ≡ was (first + i)
  history : History g first count (record { pages = pages; orders = orders; slots = slots; stored = stored; world = w })

beside : (g : (ℕ → Bool) → ℕ → Bool) (first count : ℕ) (pages : List WindowPage) (orders : ℕ → Pending) (slots : ℕ → Bool) (es : List Event) (was : ℕ → ℕ) (w : Mappings) →
    ((i : ℕ) → i < count → Apart (first + i) es) → History g first count (record { pages = pages; orders = orders; slots = slots; stored = was; world = w }) →
    Beside g first count pages orders slots was (played w es)
beside g first count pages orders slots [] was w a h = record { stored = was; agrees = λ i l. refl; history = h }
beside g first count pages orders slots (e ∷ es) was w a h = pick (λ next stored. beside g first count pages orders slots es stored next (λ i l. (a i l).1)) (step w e) refl where
  next_stored : ℕ → ℕ
  next_stored p = stored_after w e p (was p)

  pick : ((next : Mappings) (stored : ℕ → ℕ) → History g first count (record { pages = pages; orders = orders; slots = slots; stored = stored; world = next }) → Beside g first count pages orders slots stored (played next es)) →
      (o : Option Mappings) → step w e ≡ o → Beside g first count pages orders slots was (option_map_or (λ next. played next es) o w)
  pick again None t = record { stored = was; agrees = λ i l. refl; history = h }
  pick again (Some next) t =
      let moved : History g first count (record { pages = pages; orders = orders; slots = slots; stored = next_stored; world = next }) =
      own.happens (record { pages = pages; orders = orders; slots = slots; stored = was; world = w }) (record { pages = pages; orders = orders; slots = slots; stored = next_stored; world = next }) h
      (record { event = e; others = λ i l. inr (a i l).0; pages = refl; orders = refl; slots = refl; stored = λ p. refl; world = ap (λ o. unwrap_or o w) (sym t) }) in
      let rest : Beside g first count pages orders slots next_stored (played next es) = again next next_stored moved in
      record {
        stored = rest.stored;
        agrees = λ i l. rest.agrees i l ∙ unstored w e (first + i) (was (first + i)) (apart_own (first + i) e (a i l).0);
        history = rest.history;
      }

alone_beside : (f : Bool) (spans : ℕ → Span) (k j i : ℕ) (old new : Process) → WindowStays j old new → LieApart (spans k) (spans j) →
    CarriesOut (spans k).first (spans k).count i (moment_of k old) (moment_of k new) → IsAlone f spans j old → IsAlone f spans j new
alone_beside f spans k j i old new s d c a =
    let after : Beside (may_give f) (spans j).first (spans j).count (old.pages j) (old.orders j) (old.slots j) a.stored (played old.world (done_events ((spans k).first + i) (shown_in old.world.frames c.page.view) c.order)) =
    beside (may_give f) (spans j).first (spans j).count (old.pages j) (old.orders j) (old.slots j) (done_events ((spans k).first + i) (shown_in old.world.frames c.page.view) c.order) a.stored old.world
    (λ n l. done_apart ((spans k).first + i) ((spans j).first + n) (shown_in old.world.frames c.page.view) c.order (differs ((spans k).first + i) ((spans j).first + n) (d i n c.within l))) a.history in
    record {
      stored = after.stored;
      agrees = λ n l. after.agrees n l ∙ (a.agrees n l ∙ ap (λ v. v ((spans j).first + n)) (sym c.stored));
      history = window_moved (may_give f) (spans j).first (spans j).count j after.stored old new (played old.world (done_events ((spans k).first + i) (shown_in old.world.frames c.page.view) c.order)) s c.world after.history;
    }

-- ---- where it changes

alone_calls : (f : Bool) (spans : ℕ → Span) (k i : ℕ) (old new : Process) → CallsAt (spans k).first i (moment_of k old) (moment_of k new) → IsAlone f spans k old → IsAlone f spans k new
alone_calls f spans k i old new c a = record {
  stored = a.stored;
  agrees = λ n l. a.agrees n l ∙ ap (λ v. v ((spans k).first + n)) (sym c.stored);
  history = own.calls (moment_with k a.stored old) (moment_with k a.stored new) i a.history (record {
    before = c.before;
    after = c.after;
    pages = c.pages;
    pending = c.pending;
    call = c.call;
    orders = c.orders;
    slots = c.slots;
    stored = refl;
    world = c.world;
  });
}

alone_carries : (f : Bool) (spans : ℕ → Span) (k i : ℕ) (old new : Process) → CarriesOut (spans k).first (spans k).count i (moment_of k old) (moment_of k new) → IsAlone f spans k old → IsAlone f spans k new
alone_carries f spans k i old new c a = record {
  stored = a.stored;
  agrees = λ n l. a.agrees n l ∙ ap (λ v. v ((spans k).first + n)) (sym c.stored);
  history = own.carries_out (moment_with k a.stored old) (moment_with k a.stored new) i a.history (record {
    within = c.within;
    order = c.order;
    given = c.given;
    done = c.done;
    page = c.page;
    there = c.there;
    truly = c.truly;
    pages = c.pages;
    orders = c.orders;
    slots = c.slots;
    stored = refl;
    world = c.world;
  });
}

alone_told : (f : Bool) (spans : ℕ → Span) (k i : ℕ) (old new : Process) → IsToldAt (may_give f) i (moment_of k old) (moment_of k new) → IsAlone f spans k old → IsAlone f spans k new
alone_told f spans k i old new c a = record {
  stored = a.stored;
  agrees = λ n l. a.agrees n l ∙ ap (λ v. v ((spans k).first + n)) (sym c.stored);
  history = own.is_told (moment_with k a.stored old) (moment_with k a.stored new) i a.history (record {
    before = c.before;
    after = c.after;
    part = c.part;
    part_after = c.part_after;
    pages = c.pages;
    order = c.order;
    outcome = c.outcome;
    told = c.told;
    done = c.done;
    noted = c.noted;
    gives = c.gives;
    orders = c.orders;
    slots = c.slots;
    stored = refl;
    world = c.world;
  });
}

alone_happens : (f : Bool) (spans : ℕ → Span) (k : ℕ) (old new : Process) → old.is_open k ≡ true → HappensBeside spans old new → IsAlone f spans k old → IsAlone f spans k new
alone_happens f spans k old new o c a = record {
  stored = λ p. stored_after old.world c.event p (a.stored p);
  agrees = λ n l. ap (λ v. stored_after old.world c.event ((spans k).first + n) v) (a.agrees n l) ∙ sym (c.stored ((spans k).first + n));
  history = own.happens (moment_with k a.stored old) (moment_with k (λ p. stored_after old.world c.event p (a.stored p)) new) a.history (record {
    event = c.event;
    others = λ i l. c.others k i o l;
    pages = (c.windows k).pages;
    orders = (c.windows k).orders;
    slots = (c.windows k).slots;
    stored = λ p. refl;
    world = c.world;
  });
}

alone_detaches : (f : Bool) (spans : ℕ → Span) (k i : ℕ) (old new : Process) → DetachesAt (spans k).first (spans k).count i (moment_of k old) (moment_of k new) → IsAlone f spans k old → IsAlone f spans k new
alone_detaches f spans k i old new c a = record {
  stored = a.stored;
  agrees = λ n l. a.agrees n l ∙ ap (λ v. v ((spans k).first + n)) (sym c.stored);
  history = own.detaches (moment_with k a.stored old) (moment_with k a.stored new) i a.history (record {
    within = c.within;
    told = c.told;
    before = c.before;
    after = c.after;
    part = c.part;
    part_after = c.part_after;
    pages = c.pages;
    becomes = c.becomes;
    orders = c.orders;
    slots = c.slots;
    stored = refl;
    world = c.world;
  });
}

-- the lender of a page of window k goes, beside window j
alone_left : (f : Bool) (spans : ℕ → Span) (k j i : ℕ) (old new : Process) → WindowStays j old new → LieApart (spans k) (spans j) →
    DetachesAt (spans k).first (spans k).count i (moment_of k old) (moment_of k new) → IsAlone f spans j old → IsAlone f spans j new
alone_left f spans k j i old new s d c a = record {
  stored = a.stored;
  agrees = λ n l. a.agrees n l ∙ ap (λ v. v ((spans j).first + n)) (sym c.stored);
  history = own.left_beside (moment_with j a.stored old) (moment_with j a.stored new) a.history (record {
    p = (spans k).first + i;
    others = λ n l e. d i n c.within l (sym e);
    pages = s.pages;
    orders = s.orders;
    slots = s.slots;
    stored = refl;
    world = c.world;
  });
}

alone_next : (f : Bool) (spans : ℕ → Span) (k : ℕ) (old new : Process) → NextComes (spans k).first (spans k).count (moment_of k old) (moment_of k new) → IsAlone f spans k old → IsAlone f spans k new
alone_next f spans k old new c a = record {
  stored = a.stored;
  agrees = λ n l. a.agrees n l ∙ ap (λ v. v ((spans k).first + n)) (sym c.stored);
  history = own.next_comes (moment_with k a.stored old) (moment_with k a.stored new) a.history (record {
    told = c.told;
    pages = c.pages;
    world = c.world;
    orders = c.orders;
    slots = c.slots;
    stored = refl;
  });
}

alone_opens : (f : Bool) (spans : ℕ → Span) (k : ℕ) (new : Process) → Begins (spans k).first (spans k).count (moment_of k new) → IsAlone f spans k new
alone_opens f spans k new b = record { stored = new.stored; agrees = λ n l. refl; history = own.begins (moment_of k new) b }

-- ---- which windows are open

was_open : (k j : ℕ) (old new : Process) → old.is_open k ≡ true → OthersStay k old new → new.is_open j ≡ true → old.is_open j ≡ true
was_open k j old new b s o = pick (nat_eq j k) refl where
  pick : (t : Bool) → nat_eq j k ≡ t → old.is_open j ≡ true
  pick true t = subst (λ v. old.is_open v ≡ true) (sym (eqb-true j k t)) b
  pick false t = sym (s j (eqb-false j k t)).is_open ∙ o

-- no page is in two of them
abbrev OpenApart : (ℕ → Span) → Process → Type 0
OpenApart spans x = (j k : ℕ) → (j ≡ k → ⊥) → x.is_open j ≡ true → x.is_open k ≡ true → LieApart (spans j) (spans k)

fewer_apart : (spans : ℕ → Span) (old new : Process) → ((j : ℕ) → new.is_open j ≡ true → old.is_open j ≡ true) → OpenApart spans old → OpenApart spans new
fewer_apart spans old new w h j k ne a b = h j k ne (w j a) (w k b)

opens_apart : (spans : ℕ → Span) (m : ℕ) (old new : Process) → Opens spans m old new → OpenApart spans old → OpenApart spans new
opens_apart spans m old new c h j k ne a b = pick (nat_eq j m) (nat_eq k m) refl refl where
  was : (n : ℕ) → nat_eq n m ≡ false → new.is_open n ≡ true → old.is_open n ≡ true
  was n t o = sym (c.others n (eqb-false n m t)).is_open ∙ o

  pick : (s t : Bool) → nat_eq j m ≡ s → nat_eq k m ≡ t → LieApart (spans j) (spans k)
  pick true true s t = absurd (ne (eqb-true j m s ∙ sym (eqb-true k m t)))
  pick true false s t = subst (λ v. LieApart (spans v) (spans k)) (sym (eqb-true j m s)) (c.apart k (was k t b))
  pick false true s t = subst (λ v. LieApart (spans j) (spans v)) (sym (eqb-true k m t)) (λ x y lx ly e. c.apart j (was j s a) y x ly lx (sym e))
  pick false false s t = h j k ne (was j s a) (was k t b)

open_apart : (f : Bool) (spans : ℕ → Span) (x : Process) → ProcessHistory f spans x → OpenApart spans x
open_apart f spans x (begins its b) = λ j k ne a o. let shut : x.is_open j ≡ false = b.is_open j in cc
open_apart f spans x (opens old new m h c) = opens_apart spans m old new c (open_apart f spans old h)
open_apart f spans x (closes old new m h c) = fewer_apart spans old new (λ j. was_open m j old new c.before c.others) (open_apart f spans old h)
open_apart f spans x (calls old new m i h o s c) = fewer_apart spans old new (λ j. was_open m j old new o.before s) (open_apart f spans old h)
open_apart f spans x (carries_out old new m i h o s c) = fewer_apart spans old new (λ j. was_open m j old new o.before s) (open_apart f spans old h)
open_apart f spans x (is_told old new m i h o s c) = fewer_apart spans old new (λ j. was_open m j old new o.before s) (open_apart f spans old h)
open_apart f spans x (happens old new h c) = fewer_apart spans old new (λ j o. sym (c.windows j).is_open ∙ o) (open_apart f spans old h)
open_apart f spans x (detaches old new m i h o s c) = fewer_apart spans old new (λ j. was_open m j old new o.before s) (open_apart f spans old h)
open_apart f spans x (next_comes old new h c) = fewer_apart spans old new (λ j o. sym (c.is_open j) ∙ o) (open_apart f spans old h)

-- ---- each is alone

-- window m changed, or it is another one
either : (f : Bool) (spans : ℕ → Span) (k m : ℕ) (new : Process) → IsAlone f spans m new → ((k ≡ m → ⊥) → IsAlone f spans k new) → IsAlone f spans k new
either f spans k m new a b = pick (nat_eq k m) refl where
  pick : (t : Bool) → nat_eq k m ≡ t → IsAlone f spans k new
  pick true t = subst (λ v. IsAlone f spans v new) (sym (eqb-true k m t)) a
  pick false t = b (eqb-false k m t)

not_shut : (k m : ℕ) (old new : Process) → Closes m old new → new.is_open k ≡ true → k ≡ m → ⊥
not_shut k m old new c o e = let shut : new.is_open k ≡ false = subst (λ v. new.is_open v ≡ false) (sym e) c.after in cc

pub each_window_is_alone : EachWindowIsAlone
each_window_is_alone f spans k x (begins its b) o = let shut : x.is_open k ≡ false = b.is_open k in cc
each_window_is_alone f spans k x (opens old new m h c) o =
    either f spans k m new (alone_opens f spans m new c.begins)
    (λ ne. alone_stays f spans k old new (c.others k ne) c.stored c.world (each_window_is_alone f spans k old h (sym (c.others k ne).is_open ∙ o)))
each_window_is_alone f spans k x (closes old new m h c) o =
    let ne : k ≡ m → ⊥ = not_shut k m old new c o in
    alone_stays f spans k old new (c.others k ne) c.stored c.world (each_window_is_alone f spans k old h (sym (c.others k ne).is_open ∙ o))
each_window_is_alone f spans k x (calls old new m i h b s c) o =
    either f spans k m new (alone_calls f spans m i old new c (each_window_is_alone f spans m old h b.before))
    (λ ne. alone_stays f spans k old new (s k ne) c.stored c.world (each_window_is_alone f spans k old h (sym (s k ne).is_open ∙ o)))
each_window_is_alone f spans k x (carries_out old new m i h b s c) o =
    either f spans k m new (alone_carries f spans m i old new c (each_window_is_alone f spans m old h b.before))
    (λ ne. alone_beside f spans m k i old new (s k ne) (open_apart f spans old h m k (λ e. ne (sym e)) b.before (sym (s k ne).is_open ∙ o)) c
    (each_window_is_alone f spans k old h (sym (s k ne).is_open ∙ o)))
each_window_is_alone f spans k x (is_told old new m i h b s c) o =
    either f spans k m new (alone_told f spans m i old new c.told (each_window_is_alone f spans m old h b.before))
    (λ ne. alone_stays f spans k old new (s k ne) c.told.stored c.told.world (each_window_is_alone f spans k old h (sym (s k ne).is_open ∙ o)))
each_window_is_alone f spans k x (happens old new h c) o =
    let was : old.is_open k ≡ true = sym (c.windows k).is_open ∙ o in
    alone_happens f spans k old new was c (each_window_is_alone f spans k old h was)
each_window_is_alone f spans k x (detaches old new m i h b s c) o =
    either f spans k m new (alone_detaches f spans m i old new c (each_window_is_alone f spans m old h b.before))
    (λ ne. alone_left f spans m k i old new (s k ne) (open_apart f spans old h m k (λ e. ne (sym e)) b.before (sym (s k ne).is_open ∙ o)) c
    (each_window_is_alone f spans k old h (sym (s k ne).is_open ∙ o)))
each_window_is_alone f spans k x (next_comes old new h c) o =
    let was : old.is_open k ≡ true = sym (c.is_open k) ∙ o in
    alone_next f spans k old new (c.each k was) (each_window_is_alone f spans k old h was)

pub each_page_of_all_is_read : EachPageOfAllIsRead
each_page_of_all_is_read f spans k i x h o l =
    let a : IsAlone f spans k x = each_window_is_alone f spans k x h o in
    subst (λ v. Reads x.world ((spans k).first + i) v) (a.agrees i l) (each_page_is_read (may_give f) (spans k).first (spans k).count (moment_with k a.stored x) a.history i l)

-- ---- slots

-- what the host gave for windows, none of it twice
record SlotsApart (x : Process) : Type 0 where
  apart : (j k slot : ℕ) → x.slots j slot ≡ true → x.slots k slot ≡ true → j ≡ k
  of_open : (k slot : ℕ) → x.slots k slot ≡ true → x.is_open k ≡ true

-- a slot that a window has afterwards it had before, or no window had it
abbrev HadOrFree : ℕ → Process → Process → Type 0
HadOrFree m old new = (slot : ℕ) → new.slots m slot ≡ true → (old.slots m slot ≡ true) ⊎ ((k : ℕ) → old.slots k slot ≡ false)

window_apart : (m : ℕ) (old new : Process) → OthersStay m old new → HadOrFree m old new → ((slot : ℕ) → new.slots m slot ≡ true → new.is_open m ≡ true) → SlotsApart old → SlotsApart new
window_apart m old new s own_slots shut h = record { apart = apart; of_open = of_open } where
  had : (k slot : ℕ) → nat_eq k m ≡ false → new.slots k slot ≡ true → old.slots k slot ≡ true
  had k slot t e = ap (λ v. v slot) (sym (s k (eqb-false k m t)).slots) ∙ e

  of_open : (k slot : ℕ) → new.slots k slot ≡ true → new.is_open k ≡ true
  of_open k slot e = pick (nat_eq k m) refl where
    pick : (t : Bool) → nat_eq k m ≡ t → new.is_open k ≡ true
    pick true t =
        let is : k ≡ m = eqb-true k m t in
        subst (λ v. new.is_open v ≡ true) (sym is) (shut slot (subst (λ v. new.slots v slot ≡ true) is e))
    pick false t = (s k (eqb-false k m t)).is_open ∙ h.of_open k slot (had k slot t e)

  with_other : (k slot : ℕ) → nat_eq k m ≡ false → new.slots m slot ≡ true → new.slots k slot ≡ true → k ≡ m
  with_other k slot t e g = pick (own_slots slot e) where
    pick : (old.slots m slot ≡ true) ⊎ ((j : ℕ) → old.slots j slot ≡ false) → k ≡ m
    pick (inl was) = h.apart k m slot (had k slot t g) was
    pick (inr free) = let none : old.slots k slot ≡ false = free k in let some : old.slots k slot ≡ true = had k slot t g in cc

  apart : (j k slot : ℕ) → new.slots j slot ≡ true → new.slots k slot ≡ true → j ≡ k
  apart j k slot e g = pick (nat_eq j m) (nat_eq k m) refl refl where
    pick : (a b : Bool) → nat_eq j m ≡ a → nat_eq k m ≡ b → j ≡ k
    pick true true a b = eqb-true j m a ∙ sym (eqb-true k m b)
    pick true false a b = let is : j ≡ m = eqb-true j m a in is ∙ sym (with_other k slot b (subst (λ v. new.slots v slot ≡ true) is e) g)
    pick false true a b = let is : k ≡ m = eqb-true k m b in with_other j slot a (subst (λ v. new.slots v slot ≡ true) is g) e ∙ sym is
    pick false false a b = h.apart j k slot (had j slot a e) (had k slot b g)

none_had : (m : ℕ) (old new : Process) → ((s : ℕ) → new.slots m s ≡ false) → HadOrFree m old new
none_had m old new free slot e = let none : new.slots m slot ≡ false = free slot in cc

same_had : (m : ℕ) (old new : Process) → new.slots m ≡ old.slots m → HadOrFree m old new
same_had m old new s slot e = inl (ap (λ v. v slot) (sym s) ∙ e)

lent_had : (slots : ℕ → ℕ → Bool) (m s : ℕ) (outcome : Outcome) → GivesApart true slots outcome → own.lent_slots outcome (slots m) s ≡ true → (slots m s ≡ true) ⊎ ((k : ℕ) → slots k s ≡ false)
lent_had slots m s Done g e = inl e
lent_had slots m s (Lent slot n) g e = pick (nat_eq slot s) refl e where
  pick : (t : Bool) → nat_eq slot s ≡ t → cond t true (slots m s) ≡ true → (slots m s ≡ true) ⊎ ((k : ℕ) → slots k s ≡ false)
  pick true t f = inr (λ k. subst (λ v. slots k v ≡ false) (eqb-true slot s t) (g k))
  pick false t f = inl f
lent_had slots m s Refused g e = inl e
lent_had slots m s Unknown g e = inl e

released_had : (slots : ℕ → Bool) (slot s : ℕ) (outcome : Outcome) → own.released_slots slot outcome slots s ≡ true → slots s ≡ true
released_had slots slot s Done e = pick (nat_eq slot s) e where
  pick : (t : Bool) → cond t false (slots s) ≡ true → slots s ≡ true
  pick true f = cc
  pick false f = f
released_had slots slot s (Lent other n) e = e
released_had slots slot s Refused e = e
released_had slots slot s Unknown e = e

after_had : (slots : ℕ → ℕ → Bool) (m s : ℕ) (order : Order) (outcome : Outcome) → GivesApart true slots outcome → slots_after order outcome (slots m) s ≡ true →
    (slots m s ≡ true) ⊎ ((k : ℕ) → slots k s ≡ false)
after_had slots m s Order.Wait outcome g e = inl e
after_had slots m s Order.Copy outcome g e = inl e
after_had slots m s Order.Lend outcome g e = lent_had slots m s outcome g e
after_had slots m s (Order.Hold target) outcome g e = inl e
after_had slots m s (Order.Compare target) outcome g e = inl e
after_had slots m s (Order.Map target) outcome g e = inl e
after_had slots m s (Order.LetGo target) outcome g e = inl e
after_had slots m s (Order.TakeHome in_place) outcome g e = inl e
after_had slots m s (Order.Release slot) outcome g e = inl (released_had (slots m) slot s outcome e)

told_had : (m i : ℕ) (old new : Process) → IsToldIn true m i old new → HadOrFree m old new
told_had m i old new c slot e = after_had old.slots m slot c.told.order c.told.outcome c.apart (ap (λ v. v slot) (sym c.told.slots) ∙ e)

detached_had : (m i : ℕ) (spans : ℕ → Span) (old new : Process) → DetachesAt (spans m).first (spans m).count i (moment_of m old) (moment_of m new) → HadOrFree m old new
detached_had m i spans old new c slot e = inl (pick (account (belief_of c.before)) (ap (λ v. v slot) (sym c.slots) ∙ e)) where
  pick : (o : Option ℕ) → own.without_account o (old.slots m) slot ≡ true → old.slots m slot ≡ true
  pick None e = e
  pick (Some its) e = released_had (old.slots m) its slot Done e

free_apart : (x : Process) → ((k s : ℕ) → x.slots k s ≡ false) → SlotsApart x
free_apart x free = record {
  apart = λ j k slot e g. let none : x.slots j slot ≡ false = free j slot in cc;
  of_open = λ k slot e. let none : x.slots k slot ≡ false = free k slot in cc;
}

all_stay_apart : (old new : Process) → ((k : ℕ) → WindowStays k old new) → SlotsApart old → SlotsApart new
all_stay_apart old new s h = record {
  apart = λ j k slot e g. h.apart j k slot (had j slot e) (had k slot g);
  of_open = λ k slot e. (s k).is_open ∙ h.of_open k slot (had k slot e);
} where
  had : (k slot : ℕ) → new.slots k slot ≡ true → old.slots k slot ≡ true
  had k slot e = ap (λ v. v slot) (sym (s k).slots) ∙ e

slots_apart : (spans : ℕ → Span) (x : Process) → ProcessHistory true spans x → SlotsApart x
slots_apart spans x (begins its b) = free_apart its b.free
slots_apart spans x (opens old new m h c) = window_apart m old new c.others (none_had m old new c.begins.slots) (λ slot e. c.after) (slots_apart spans old h)
slots_apart spans x (closes old new m h c) =
    window_apart m old new c.others (none_had m old new c.free) (λ slot e. let none : new.slots m slot ≡ false = c.free slot in cc) (slots_apart spans old h)
slots_apart spans x (calls old new m i h o s c) = window_apart m old new s (same_had m old new c.slots) (λ slot e. o.after) (slots_apart spans old h)
slots_apart spans x (carries_out old new m i h o s c) = window_apart m old new s (same_had m old new c.slots) (λ slot e. o.after) (slots_apart spans old h)
slots_apart spans x (is_told old new m i h o s c) = window_apart m old new s (told_had m i old new c) (λ slot e. o.after) (slots_apart spans old h)
slots_apart spans x (happens old new h c) = all_stay_apart old new c.windows (slots_apart spans old h)
slots_apart spans x (detaches old new m i h o s c) = window_apart m old new s (detached_had m i spans old new c) (λ slot e. o.after) (slots_apart spans old h)
slots_apart spans x (next_comes old new h c) = free_apart new c.free

pub no_slot_of_all_is_lost : NoSlotOfAllIsLost
no_slot_of_all_is_lost spans x h = record {
  ones = λ k o.
      let a : IsAlone true spans k x = each_window_is_alone true spans k x h o in
      no_slot_is_lost (spans k).first (spans k).count (moment_with k a.stored x) a.history;
  apart = (slots_apart spans x h).apart;
  of_open = (slots_apart spans x h).of_open;
}

pub none_of_all_is_released_shown : NoneOfAllIsReleasedShown
none_of_all_is_released_shown spans k i j n slot x y page h ok oj e s a l =
    let its : IsAlone true spans k x = each_window_is_alone true spans k x h ok in
    let all : EachSlotIsOneWindows x = no_slot_of_all_is_lost spans x h in
    let leaves : belief_of y ≡ Leaving slot =
    releases_own (belief_of y) slot ((each_order_is_due own.only_free (spans k).first (spans k).count (moment_with k its.stored x) its.history i y (Order.Release slot) e).0 s).is_due in
    let mine : slot_of (x.pages k) i ≡ Some slot = slot_at (x.pages k) i y e ∙ ap account leaves in
    let same : j ≡ k = all.apart j k slot ((all.ones j oj).given n slot a) ((all.ones k ok).given i slot mine) in
    none_is_released_shown (spans k).first (spans k).count (moment_with k its.stored x) its.history i n slot y page e s
    (subst (λ v. slot_of (x.pages v) n ≡ Some slot) same a) (subst (λ v. slice_get x.world.pages ((spans v).first + n) ≡ Some page) same l)
