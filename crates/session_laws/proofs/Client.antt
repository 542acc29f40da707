-- Each call of the client leaves all sound.
use Rattle.std.proofs.Common.{◌≡◌, ◌∙◌, ℕ, ◌+◌, ◌≤◌, ◌⊎◌, inl, inr, Bool, true, false, cond, not, ◌&&◌, List, [], ◌∷◌, ◌++◌, length, take, drop, Option, Some, None, refl, ap, sym, subst}
use Rattle.std.specs.Prelude.{nat_eq, nat_le}
use Rattle.std.proofs.lemmas.List.{drop-append-le}
use Rattle.std.proofs.lemmas.Bool.{eqb-true}
use Rattle.host_messages.specs.declared.client.Wanted.{Wanted}
use Rattle.host_messages.specs.declared.item.Lent.{Lent}
use Rattle.host_messages.specs.declared.limits.TheConstants.{MAX_IN_MESSAGE}
use Rattle.client_session.specs.declared.session.TheConstants.{MAX_UNHEARD}
use Rattle.client_session.specs.declared.link.Link.{Link}
use Rattle.client_session.specs.declared.link.Link.TheVariants as link
use Rattle.client_session.specs.Sessions.{SessionView, is_talking, is_lending, wanted_of, wanted_as, may_ask, due}
use Rattle.session_laws.specs.World.{World, Said, Hello, Ask, Lend, Release, Reply, Welcome, Seen, Loans, Connects, Parts, Asks, Lends, GivesUp, Says, TakesUp, Begins, HearsAnswers, HearsLoans, May, step, sent, has, given_to, next_loans}
use Rattle.session_laws.specs.Sound.{Sub, OnlyReleases, OnlyHellos, AreStale, is_coming, Uncounted, AreReleased, IsCounted, IsReady, IsSeen, PhaseAt, Sound}
use Rattle.session_laws.proofs.Lists.{differs, zero_least, grown, no_frame, and_nothing, none_heard, has_left, has_right, has_split, has_drop, has_take, has_rest, drop_twice, drop_all, more_within, only_more, asked_more, stale_more, sent_ask, sent_lend, sent_release, sent_silent, sent_coming, sent_last, only_stale, asked_stale, stale_hello, hellos_hello, talking, greeting, asked_of, lending_of, named}
use Rattle.session_laws.proofs.Halves.{moved, gives_fits, heard_fits, loans_fit, not_both_counts}

and_first : (a b : Bool) → (a && b) ≡ true → a ≡ true
and_first true b e = refl
and_first false b e = e

and_second : (a b : Bool) → (a && b) ≡ true → b ≡ true
and_second true b e = e
and_second false b e = cc

-- ---- what was said becomes old

stale_end : (wanted : Option Wanted) (unheard : List ℕ) (stale up : List Said) → up ≡ [] → AreStale wanted unheard stale → AreStale wanted unheard (stale ++ up)
stale_end wanted unheard stale up e h = subst (λ (ms : List Said). AreStale wanted unheard (stale ++ ms)) (sym e) (subst (AreStale wanted unheard) (sym (and_nothing stale)) h)

stale_start : (wanted : Option Wanted) (unheard : List ℕ) (stale up : List Said) → stale ≡ [] → AreStale wanted unheard up → AreStale wanted unheard (stale ++ up)
stale_start wanted unheard stale up e h = subst (λ (ms : List Said). AreStale wanted unheard (ms ++ up)) (sym e) h

hellos_end : (wanted : Option Wanted) (stale up : List Said) → up ≡ [] → OnlyHellos wanted stale → OnlyHellos wanted (stale ++ up)
hellos_end wanted stale up e h = subst (λ (ms : List Said). OnlyHellos wanted (stale ++ ms)) (sym e) (subst (OnlyHellos wanted) (sym (and_nothing stale)) h)

calls_stale : (w : World) → AreStale (wanted_of w.client) w.client.unheard w.stale → (w.up ≡ []) ⊎ (w.up ≡ Hello (wanted_of w.client) ∷ []) → AreStale (wanted_of w.client) w.client.unheard (w.stale ++ w.up)
calls_stale w h (inl e) = stale_end (wanted_of w.client) w.client.unheard w.stale w.up e h
calls_stale w h (inr e) = subst (λ (ms : List Said). AreStale (wanted_of w.client) w.client.unheard (w.stale ++ ms)) (sym e) (stale_hello (wanted_of w.client) w.client.unheard w.stale h)

all_stale : (w : World) (l : Link) → PhaseAt w l → AreStale (wanted_of w.client) w.client.unheard w.stale → AreStale (wanted_of w.client) w.client.unheard (w.stale ++ w.up)
all_stale w link.Apart p h = stale_end (wanted_of w.client) w.client.unheard w.stale w.up p.0 h
all_stale w link.Greeting (inl c) h = calls_stale w h c.1
all_stale w link.Greeting (inr g) h = stale_end (wanted_of w.client) w.client.unheard w.stale w.up g.2 h
all_stale w link.Talking p h = stale_start (wanted_of w.client) w.client.unheard w.stale w.up p.0 (only_stale (wanted_of w.client) w.client.unheard w.up p.2)
all_stale w (link.Asked n) (e, inl u) h = stale_start (wanted_of w.client) w.client.unheard w.stale w.up e (asked_stale (wanted_of w.client) (Ask n) w.client.unheard w.up u.1)
all_stale w (link.Asked n) (e, inr g) h = stale_end (wanted_of w.client) w.client.unheard w.stale w.up g.1 h
all_stale w (link.Lending n) (e, d, inl u) h = stale_start (wanted_of w.client) w.client.unheard w.stale w.up e (asked_stale (wanted_of w.client) (Lend n) w.client.unheard w.up u.1)
all_stale w (link.Lending n) (e, d, inr g) h = stale_end (wanted_of w.client) w.client.unheard w.stale w.up g.2 h

calls_hellos : (w : World) → OnlyHellos (wanted_of w.client) w.stale → (w.up ≡ []) ⊎ (w.up ≡ Hello (wanted_of w.client) ∷ []) → OnlyHellos (wanted_of w.client) (w.stale ++ w.up)
calls_hellos w h (inl e) = hellos_end (wanted_of w.client) w.stale w.up e h
calls_hellos w h (inr e) = subst (λ (ms : List Said). OnlyHellos (wanted_of w.client) (w.stale ++ ms)) (sym e) (hellos_hello (wanted_of w.client) w.stale h)

-- where a reply isn't counted nothing but Hello is under way
all_hellos : (w : World) (l : Link) (name : List ℕ) → w.host.name ≡ Some name → w.client.name ≡ Some name → PhaseAt w l →
    Uncounted w.host w.client.loans (wanted_of w.client) w.shown w.stale → OnlyHellos (wanted_of w.client) (w.stale ++ w.up)
all_hellos w link.Apart name a b p u = hellos_end (wanted_of w.client) w.stale w.up p.0 u.later
all_hellos w link.Greeting name a b (inl c) u = calls_hellos w u.later c.1
all_hellos w link.Greeting name a b (inr g) u = hellos_end (wanted_of w.client) w.stale w.up g.2 u.later
all_hellos w link.Talking name a b p u = absurd (not_both_counts w.host.loans w.client.loans (p.3 name a b).0 u.more)
all_hellos w (link.Asked n) name a b (e, inl o) u = absurd (not_both_counts w.host.loans w.client.loans (o.2 name a b).0 u.more)
all_hellos w (link.Asked n) name a b (e, inr g) u = hellos_end (wanted_of w.client) w.stale w.up g.1 u.later
all_hellos w (link.Lending n) name a b (e, d, inl o) u = absurd (not_both_counts w.host.loans w.client.loans (o.2 name a b).0 u.more)
all_hellos w (link.Lending n) name a b (e, d, inr g) u = hellos_end (wanted_of w.client) w.stale w.up g.2 u.later

pub connects_keeps : (w : World) → Sound w → Sound (step w Connects)
connects_keeps w s = record {
  silent = λ e. absurd (differs true refl e);
  within = zero_least (length w.client.unheard);
  phase = inl (refl, inr refl);
  stale = all_stale w w.client.link s.phase s.stale;
  fits = λ name a b. moved w.host w.client.loans (wanted_of w.client) w.client.unheard w.shown w.stale (w.stale ++ w.up) (s.fits name a b) (all_hellos w w.client.link name a b s.phase);
}

pub parts_keeps : (w : World) → Sound w → Sound (step w Parts)
parts_keeps w s = record {
  silent = λ e. refl;
  within = zero_least (length w.client.unheard);
  phase = (refl, refl);
  stale = all_stale w w.client.link s.phase s.stale;
  fits = λ name a b. moved w.host w.client.loans (wanted_of w.client) w.client.unheard w.shown w.stale (w.stale ++ w.up) (s.fits name a b) (all_hellos w w.client.link name a b s.phase);
}

-- ---- questions, lends and releases

-- what is said more leaves what is coming
still_coming : (w : World) (m : Said) (s : ℕ) (R : Type 0) → (is_coming w.up s ≡ true) ⊎ R → (is_coming (sent w.stands w.up m) s ≡ true) ⊎ R
still_coming w m s R (inl e) = inl (sent_coming w.stands w.up m s e)
still_coming w m s R (inr r) = inr r

pub asks_keeps : (w : World) (n : ℕ) → Sound w → May w (Asks n) → Sound (step w (Asks n))
asks_keeps w n s may =
    let t : w.client.link ≡ link.Talking = talking w.client.link (and_first (is_talking w.client.link) (nat_eq w.client.said (length w.client.unheard)) may) in
    let p : PhaseAt w link.Talking = subst (PhaseAt w) t s.phase in
    record {
      silent = sent_silent w.stands w.up (Ask n) s.silent;
      within = s.within;
      phase = (
        p.0,
        inl (
          p.1,
          sent_ask w.stands n w.client.unheard w.up p.2,
          λ name a b. ((p.3 name a b).0, λ on x f h u. still_coming w (Ask n) x (has (drop w.client.said w.client.unheard) x ≡ true) ((p.3 name a b).1 on x f h u)),
        ),
      );
      stale = s.stale;
      fits = s.fits;
    }

pub lends_keeps : (w : World) (n : ℕ) → Sound w → May w (Lends n) → Sound (step w (Lends n))
lends_keeps w n s may =
    let ask : may_ask w.client ≡ true = and_first (may_ask w.client) (nat_le n MAX_IN_MESSAGE) may in
    let t : w.client.link ≡ link.Talking = talking w.client.link (and_first (is_talking w.client.link) (nat_eq w.client.said (length w.client.unheard)) ask) in
    let all : w.client.said ≡ length w.client.unheard = eqb-true w.client.said (length w.client.unheard) (and_second (is_talking w.client.link) (nat_eq w.client.said (length w.client.unheard)) ask) in
    let p : PhaseAt w link.Talking = subst (PhaseAt w) t s.phase in
    record {
      silent = sent_silent w.stands w.up (Lend n) s.silent;
      within = s.within;
      phase = (
        p.0,
        drop_all w.client.said w.client.unheard all,
        inl (
          p.1,
          sent_lend w.stands n w.client.unheard w.up p.2,
          λ name a b. ((p.3 name a b).0, λ on x f h u. still_coming w (Lend n) x (has (drop w.client.said w.client.unheard) x ≡ true) ((p.3 name a b).1 on x f h u)),
        ),
      );
      stale = s.stale;
      fits = s.fits;
    }

-- slots that are given up are to be said
more_released : (w : World) (slots : List ℕ) → w.client.said ≤ length w.client.unheard → AreReleased w → AreReleased (step w (GivesUp slots))
more_released w slots within old s f h u = pick (has_split w.client.unheard slots s u) where
  later : drop w.client.said (w.client.unheard ++ slots) ≡ drop w.client.said w.client.unheard ++ slots
  later = drop-append-le w.client.said w.client.unheard slots within

  before : (is_coming w.up s ≡ true) ⊎ (has (drop w.client.said w.client.unheard) s ≡ true) → (is_coming w.up s ≡ true) ⊎ (has (drop w.client.said (w.client.unheard ++ slots)) s ≡ true)
  before (inl e) = inl e
  before (inr e) = inr (subst (λ (xs : List ℕ). has xs s ≡ true) (sym later) (has_left (drop w.client.said w.client.unheard) slots s e))

  pick : (has w.client.unheard s ≡ true) ⊎ (has slots s ≡ true) → (is_coming w.up s ≡ true) ⊎ (has (drop w.client.said (w.client.unheard ++ slots)) s ≡ true)
  pick (inl e) = before (old s f h e)
  pick (inr e) = inr (subst (λ (xs : List ℕ). has xs s ≡ true) (sym later) (has_right (drop w.client.said w.client.unheard) slots s e))

more_counted : (w : World) (slots : List ℕ) → w.client.said ≤ length w.client.unheard → IsCounted w → IsCounted (step w (GivesUp slots))
more_counted w slots within old name a b = ((old name a b).0, λ on. more_released w slots within ((old name a b).1 on))

more_seen : (w : World) (slots : List ℕ) (n : ℕ) → w.client.said ≤ length w.client.unheard → IsSeen n w → IsSeen n (step w (GivesUp slots))
more_seen w slots n within g = (g.0, g.1, λ name a b. ((g.2 name a b).0, λ s f h u. pick s (has_split w.client.unheard slots s u) ((g.2 name a b).1 s f h))) where
  later : drop w.client.said (w.client.unheard ++ slots) ≡ drop w.client.said w.client.unheard ++ slots
  later = drop-append-le w.client.said w.client.unheard slots within

  pick : (s : ℕ) → (has w.client.unheard s ≡ true) ⊎ (has slots s ≡ true) → (has w.client.unheard s ≡ true → has (drop w.client.said w.client.unheard) s ≡ true) → has (drop w.client.said (w.client.unheard ++ slots)) s ≡ true
  pick s (inl e) old = subst (λ (xs : List ℕ). has xs s ≡ true) (sym later) (has_left (drop w.client.said w.client.unheard) slots s (old e))
  pick s (inr e) old = subst (λ (xs : List ℕ). has xs s ≡ true) (sym later) (has_right (drop w.client.said w.client.unheard) slots s e)

gives_phase : (w : World) (slots : List ℕ) (l : Link) → not (is_lending l) ≡ true → w.client.said ≤ length w.client.unheard → PhaseAt w l → PhaseAt (step w (GivesUp slots)) l
gives_phase w slots link.Apart not_lending within p = p
gives_phase w slots link.Greeting not_lending within p = p
gives_phase w slots link.Talking not_lending within p = (p.0, p.1, only_more w.client.unheard slots w.up p.2, more_counted w slots within p.3)
gives_phase w slots (link.Asked n) not_lending within (e, inl u) = (e, inl (u.0, asked_more (Ask n) w.client.unheard slots w.up u.1, more_counted w slots within u.2))
gives_phase w slots (link.Asked n) not_lending within (e, inr g) = (e, inr (more_seen w slots n within g))
gives_phase w slots (link.Lending n) not_lending within p = absurd (differs false not_lending refl)

pub gives_keeps : (w : World) (slots : List ℕ) → Sound w → May w (GivesUp slots) → Sound (step w (GivesUp slots))
gives_keeps w slots s may = record {
  silent = s.silent;
  within = grown w.client.said w.client.unheard slots s.within;
  phase = gives_phase w slots w.client.link (and_first (not (is_lending w.client.link)) (nat_le (length w.client.unheard + length slots) MAX_UNHEARD) may) s.within s.phase;
  stale = stale_more (wanted_of w.client) w.client.unheard slots w.stale s.stale;
  fits = λ name a b. gives_fits w.host w.client.loans (wanted_of w.client) w.client.unheard slots w.shown w.stale (s.fits name a b);
}

-- the release that is said
due_is : (v : SessionView) → v.link ≡ link.Talking → due v ≡ take MAX_IN_MESSAGE (drop v.said v.unheard)
due_is v t = ap (λ (l : Link). cond (is_talking l) (take MAX_IN_MESSAGE (drop v.said v.unheard)) []) t

pub says_keeps : (w : World) → Sound w → May w Says → Sound (step w Says)
says_keeps w s may = record {
  silent = sent_silent w.stands w.up (Release (due w.client)) s.silent;
  within = subst (λ (xs : List ℕ). w.client.said + length xs ≤ length w.client.unheard) (sym is) (more_within w.client.said MAX_IN_MESSAGE w.client.unheard s.within);
  phase = subst (PhaseAt (step w Says)) (sym t) (p.0, p.1, sent_release w.stands (due w.client) w.client.unheard w.up sub p.2, λ name a b. ((p.3 name a b).0, λ on x f h u. told x on ((p.3 name a b).1 on x f h u)));
  stale = s.stale;
  fits = s.fits;
} where
  t : w.client.link ≡ link.Talking
  t = talking w.client.link may

  p : PhaseAt w link.Talking
  p = subst (PhaseAt w) t s.phase

  is : due w.client ≡ take MAX_IN_MESSAGE (drop w.client.said w.client.unheard)
  is = due_is w.client t

  sub : Sub (due w.client) w.client.unheard
  sub x e = has_drop w.client.said w.client.unheard x (has_take MAX_IN_MESSAGE (drop w.client.said w.client.unheard) x (subst (λ (xs : List ℕ). has xs x ≡ true) is e))

  rest : (x : ℕ) → has (drop (length (take MAX_IN_MESSAGE (drop w.client.said w.client.unheard))) (drop w.client.said w.client.unheard)) x ≡ true → has (drop (w.client.said + length (due w.client)) w.client.unheard) x ≡ true
  rest x e =
      subst (λ (xs : List ℕ). has (drop (w.client.said + length xs) w.client.unheard) x ≡ true) (sym is)
      (subst (λ (xs : List ℕ). has xs x ≡ true) (sym (drop_twice w.client.said (length (take MAX_IN_MESSAGE (drop w.client.said w.client.unheard))) w.client.unheard)) e)

  said : (x : ℕ) → w.stands ≡ true → (has (take MAX_IN_MESSAGE (drop w.client.said w.client.unheard)) x ≡ true) ⊎ (has (drop (length (take MAX_IN_MESSAGE (drop w.client.said w.client.unheard))) (drop w.client.said w.client.unheard)) x ≡ true) →
      (is_coming (sent w.stands w.up (Release (due w.client))) x ≡ true) ⊎ (has (drop (w.client.said + length (due w.client)) w.client.unheard) x ≡ true)
  said x on (inl e) = inl (sent_last w.stands w.up (due w.client) x on (subst (λ (xs : List ℕ). has xs x ≡ true) (sym is) e))
  said x on (inr e) = inr (rest x e)

  told : (x : ℕ) → w.stands ≡ true → (is_coming w.up x ≡ true) ⊎ (has (drop w.client.said w.client.unheard) x ≡ true) →
      (is_coming (sent w.stands w.up (Release (due w.client))) x ≡ true) ⊎ (has (drop (w.client.said + length (due w.client)) w.client.unheard) x ≡ true)
  told x on (inl e) = inl (sent_coming w.stands w.up (Release (due w.client)) x e)
  told x on (inr e) = said x on (has_rest MAX_IN_MESSAGE (drop w.client.said w.client.unheard) x e)

-- ---- replies

one_welcome : (rs : List Reply) (x y : List ℕ) (rest : List Reply) → rs ≡ Welcome x ∷ [] → rs ≡ Welcome y ∷ rest → (x ≡ y) × (rest ≡ [])
one_welcome rs x y rest e f = (cc, cc)

one_seen : (rs : List Reply) (n m : ℕ) (rest : List Reply) → rs ≡ Seen n ∷ [] → rs ≡ Seen m ∷ rest → rest ≡ []
one_seen rs n m rest e f = cc

one_loans : (rs : List Reply) (x y : List Lent) (rest : List Reply) → rs ≡ Loans x ∷ [] → rs ≡ Loans y ∷ rest → (x ≡ y) × (rest ≡ [])
one_loans rs x y rest e f = (cc, cc)

only_nothing : (unheard : List ℕ) (ms : List Said) → ms ≡ [] → OnlyReleases unheard ms
only_nothing unheard ms e = subst (OnlyReleases unheard) (sym e) tt

stale_nothing : (wanted : Option Wanted) (unheard : List ℕ) (ms : List Said) → ms ≡ [] → AreStale wanted unheard ms
stale_nothing wanted unheard ms e = subst (AreStale wanted unheard) (sym e) tt

-- Welcome is under way, and to this session
welcome_of : (w : World) (name : List ℕ) (rest : List Reply) → PhaseAt w link.Greeting → w.down ≡ Welcome name ∷ rest → (w.up ≡ []) × (w.stale ≡ []) × (rest ≡ []) × (w.host.name ≡ Some name → IsReady name w)
welcome_of w name rest (inl c) d = absurd (none_heard w.down (Welcome name) rest c.0 d)
welcome_of w name rest (inr g) d =
    let same : (g.0 ≡ name) × (rest ≡ []) = one_welcome w.down g.0 name rest g.1 d in
    (g.2, g.3, same.1, λ a. subst (λ (n : List ℕ). IsReady n w) same.0 (g.4 (subst (λ (n : List ℕ). w.host.name ≡ Some n) (sym same.0) a)))

-- the name that both know
same_name : (o : Option (List ℕ)) (x y : List ℕ) → o ≡ Some x → o ≡ Some y → x ≡ y
same_name o x y e f = cc

pub takes_up_keeps : (w : World) (name : List ℕ) (rest : List Reply) → Sound w → May w (TakesUp name rest) → Sound (step w (TakesUp name rest))
takes_up_keeps w name rest s may =
    let g : w.client.link ≡ link.Greeting = greeting w.client.link may.1 in
    let p : (w.up ≡ []) × (w.stale ≡ []) × (rest ≡ []) × (w.host.name ≡ Some name → IsReady name w) = welcome_of w name rest (subst (PhaseAt w) g s.phase) may.0 in
    let own : w.client.name ≡ Some name = named name w.client.name may.2 in
    record {
      silent = s.silent;
      within = zero_least (length w.client.unheard);
      phase = (
        p.1,
        p.2,
        only_nothing w.client.unheard w.up p.0,
        λ other a b. ((p.3 (subst (λ (n : List ℕ). w.host.name ≡ Some n) (same_name w.client.name other name b own) a)).0 may.2, λ on x f h u. inr u),
      );
      stale = s.stale;
      fits = s.fits;
    }

pub begins_keeps : (w : World) (name : List ℕ) (rest : List Reply) → Sound w → May w (Begins name rest) → Sound (step w (Begins name rest))
begins_keeps w name rest s may = record {
  silent = s.silent;
  within = zero_least 0;
  phase = (p.1, p.2, only_nothing [] w.up p.0, λ other a b. ((new other a b).0, λ on x f h u. inr u));
  stale = stale_nothing (Some (record { name = name; loans = 0 })) [] w.stale p.1;
  fits = λ other a b. record {
    shows = λ x f e. absurd (no_frame f e);
    apart = λ x f e. refl;
    known = λ x f e. absurd (nobodys x f ((new other a b).1 x) e);
    counts = inl (new other a b).0;
  };
} where
  p : (w.up ≡ []) × (w.stale ≡ []) × (rest ≡ []) × (w.host.name ≡ Some name → IsReady name w)
  p = welcome_of w name rest (subst (PhaseAt w) (greeting w.client.link may.1) s.phase) may.0

  new : (other : List ℕ) → w.host.name ≡ Some other → Some name ≡ Some other → (w.host.loans ≡ 0) × ((x : ℕ) → w.host.held x ≡ None)
  new other a b = (p.3 (a ∙ sym b)).1 may.2

  nobodys : (x f : ℕ) → w.host.held x ≡ None → w.host.held x ≡ Some f → ⊥
  nobodys x f e h = cc

pub answers_keeps : (w : World) (n : ℕ) (rest : List Reply) → Sound w → May w (HearsAnswers n rest) → Sound (step w (HearsAnswers n rest))
answers_keeps w n rest s may = by (subst (PhaseAt w) (asked_of n w.client.link may.1) s.phase) where
  by : PhaseAt w (link.Asked n) → Sound (step w (HearsAnswers n rest))
  by (e, inl u) = absurd (none_heard w.down (Seen n) rest u.0 may.0)
  by (e, inr g) = record {
    silent = s.silent;
    within = zero_least (length (drop w.client.said w.client.unheard));
    phase = (e, one_seen w.down n n rest g.0 may.0, only_nothing (drop w.client.said w.client.unheard) w.up g.1, λ name a b. ((g.2 name a b).0, λ on x f h u. inr u));
    stale = stale_nothing (wanted_of w.client) (drop w.client.said w.client.unheard) w.stale e;
    fits = λ name a b. heard_fits w.host w.client.loans (wanted_of w.client) w.client.unheard w.client.said w.shown w.stale (s.fits name a b) (g.2 name a b).0 (g.2 name a b).1;
  }

pub loans_keeps : (w : World) (ls : List Lent) (rest : List Reply) → Sound w → May w (HearsLoans ls rest) → Sound (step w (HearsLoans ls rest))
loans_keeps w ls rest s may = by (subst (PhaseAt w) (lending_of (length ls) w.client.link may.1) s.phase) where
  by : PhaseAt w (link.Lending (length ls)) → Sound (step w (HearsLoans ls rest))
  by (e, d, inl u) = absurd (none_heard w.down (Loans ls) rest u.0 may.0)
  by (e, d, inr g) =
      let same : (g.0 ≡ ls) × (rest ≡ []) = one_loans w.down g.0 ls rest g.1 may.0 in
      record {
        silent = s.silent;
        within = zero_least (length (drop w.client.said w.client.unheard));
        phase = (e, same.1, only_nothing (drop w.client.said w.client.unheard) w.up g.2, λ name a b. ((g.3 name a b).0, λ on x f h u. inr u));
        stale = stale_nothing (wanted_as w.client.name (next_loans w.client.loans)) (drop w.client.said w.client.unheard) w.stale e;
        fits = λ name a b. loans_fit w.host w.client.loans (wanted_of w.client) (wanted_as w.client.name (next_loans w.client.loans)) w.client.unheard (drop w.client.said w.client.unheard) w.shown ls w.stale
            (s.fits name a b) (g.3 name a b).0 ((g.3 name a b).1 ∙ same.0) d (λ x f h u. ap (λ (xs : List Lent). given_to xs x) (sym same.0) ∙ (g.3 name a b).2 x f h u);
      }
