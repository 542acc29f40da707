-- What the host does leaves all sound.
use Rattle.std.proofs.Common.{◌≡◌, ◌∙◌, ℕ, ◌⊎◌, inl, inr, Bool, true, false, List, [], ◌∷◌, ◌++◌, drop, Option, Some, None, refl, ap, sym, subst}
use Rattle.host_messages.specs.declared.client.Wanted.{Wanted}
use Rattle.host_messages.specs.declared.item.Lent.{Lent}
use Rattle.client_session.specs.declared.link.Link.{Link}
use Rattle.client_session.specs.declared.link.Link.TheVariants as link
use Rattle.client_session.specs.Sessions.{is_named, wanted_of}
use Rattle.session_laws.specs.World.{World, HostSide, Said, Hello, Ask, Lend, Release, Reply, Welcome, Seen, Loans, Resumes, Starts, Answers, Grants, Frees, OldResumes, OldStarts, OldGrants, OldFrees, Loses, Closes, Forgets, Dies, May, step, has, given_to, or_else, next_loans, fresh, resumed, lent, released}
use Rattle.session_laws.specs.Sound.{Sub, OnlyReleases, AreAsked, OnlyHellos, AreStale, is_coming, Uncounted, Fits, IfSame, IsCounted, IsReady, IsUnanswered, IsSeen, PhaseAt, Sound}
use Rattle.session_laws.proofs.Lists.{or_second, differs, none_first, hello_ask, hello_lend, hello_release, ask_lend, lend_ask, one_ask, stale_rest, hellos_rest, not_named, wanted_is}
use Rattle.session_laws.proofs.Halves.{moved, resumed_fits, lent_fits, released_fits, kept_slot}

-- ---- Hello of the client's connection

-- what is heard first is Hello: it is all that was said
only_hello : (w : World) (o : Option Wanted) (rest : List Said) → (w.up ≡ []) ⊎ (w.up ≡ Hello (wanted_of w.client) ∷ []) → w.up ≡ Hello o ∷ rest → (wanted_of w.client ≡ o) × (rest ≡ [])
only_hello w o rest (inl e) f = absurd (none_first w.up (Hello o) rest e f)
only_hello w o rest (inr e) f = (cc, cc)

pub hello_calls : (w : World) (l : Link) (o : Option Wanted) (rest : List Said) → PhaseAt w l → w.up ≡ Hello o ∷ rest → (l ≡ link.Greeting) × (w.down ≡ []) × (wanted_of w.client ≡ o) × (rest ≡ [])
hello_calls w link.Apart o rest p e = absurd (none_first w.up (Hello o) rest p.0 e)
hello_calls w link.Greeting o rest (inl c) e = let one : (wanted_of w.client ≡ o) × (rest ≡ []) = only_hello w o rest c.1 e in (refl, c.0, one.0, one.1)
hello_calls w link.Greeting o rest (inr g) e = absurd (none_first w.up (Hello o) rest g.2 e)
hello_calls w link.Talking o rest p e = absurd (subst (OnlyReleases w.client.unheard) e p.2)
hello_calls w (link.Asked n) o rest (h, inl u) e = absurd (subst (AreAsked (Ask n) w.client.unheard) e u.1)
hello_calls w (link.Asked n) o rest (h, inr g) e = absurd (none_first w.up (Hello o) rest g.1 e)
hello_calls w (link.Lending n) o rest (h, d, inl u) e = absurd (subst (AreAsked (Lend n) w.client.unheard) e u.1)
hello_calls w (link.Lending n) o rest (h, d, inr g) e = absurd (none_first w.up (Hello o) rest g.2 e)

-- a reply behind none
one_reply : (rs : List Reply) (r : Reply) → rs ≡ [] → rs ++ r ∷ [] ≡ r ∷ []
one_reply rs r e = ap (λ (xs : List Reply). xs ++ r ∷ []) e

never_named : (b : Bool) (A : Type 0) → b ≡ true → b ≡ false → A
never_named b A e f = absurd (differs b e f)

-- nothing that was heard is left to be heard by nobody
still_silent : (b : Bool) (up rest : List Said) (m : Said) → (b ≡ false → up ≡ []) → up ≡ m ∷ rest → b ≡ false → rest ≡ []
still_silent b up rest m h e off = absurd (none_first up m rest (h off) e)

fits_resumed : (w : World) (wanted : Wanted) (now : List Said) → wanted.loans ≡ w.client.loans → IfSame w (Fits w.host w.client.loans (wanted_of w.client) w.client.unheard w.shown w.stale) →
    (name : List ℕ) → w.host.name ≡ Some name → w.client.name ≡ Some name → Fits (resumed wanted.loans w.host) w.client.loans (wanted_of w.client) w.client.unheard w.shown now
fits_resumed w wanted now e fits name a b =
    subst (λ (n : ℕ). Fits (resumed n w.host) w.client.loans (wanted_of w.client) w.client.unheard w.shown now) (sym e)
    (resumed_fits w.host w.client.loans (wanted_of w.client) w.client.unheard w.shown w.stale now (fits name a b))

pub resumes_keeps : (w : World) (wanted : Wanted) (rest : List Said) → Sound w → May w (Resumes wanted rest) → Sound (step w (Resumes wanted rest))
resumes_keeps w wanted rest s may =
    let h : (w.client.link ≡ link.Greeting) × (w.down ≡ []) × (wanted_of w.client ≡ Some wanted) × (rest ≡ []) = hello_calls w w.client.link (Some wanted) rest s.phase may.0 in
    let k : (w.client.name ≡ Some wanted.name) × (wanted.loans ≡ w.client.loans) = wanted_is w.client.name w.client.loans wanted h.2 in
    record {
      silent = still_silent w.stands w.up rest (Hello (Some wanted)) s.silent may.0;
      within = s.within;
      phase = subst (PhaseAt (step w (Resumes wanted rest))) (sym h.0) (inr (
        wanted.name,
        one_reply w.down (Welcome wanted.name) h.1,
        h.3,
        refl,
        λ a. ((λ is. k.1), (λ isnt. absurd (not_named wanted.name w.client.name isnt k.0))),
      ));
      stale = tt;
      fits = fits_resumed w wanted [] k.1 s.fits;
    }

-- a session that begins isn't the client's
not_its : (name : List ℕ) (o : Option (List ℕ)) (other : List ℕ) → is_named name o ≡ false → Some name ≡ Some other → o ≡ Some other → ⊥
not_its name o other isnt a b = not_named name o isnt (b ∙ sym a)

pub starts_keeps : (w : World) (wanted : Option Wanted) (name : List ℕ) (rest : List Said) → Sound w → May w (Starts wanted name rest) → Sound (step w (Starts wanted name rest))
starts_keeps w wanted name rest s may =
    let h : (w.client.link ≡ link.Greeting) × (w.down ≡ []) × (wanted_of w.client ≡ wanted) × (rest ≡ []) = hello_calls w w.client.link wanted rest s.phase may.0 in
    record {
      silent = still_silent w.stands w.up rest (Hello wanted) s.silent may.0;
      within = s.within;
      phase = subst (PhaseAt (step w (Starts wanted name rest))) (sym h.0) (inr (
        name,
        one_reply w.down (Welcome name) h.1,
        h.3,
        refl,
        λ a. ((λ is. never_named (is_named name w.client.name) (0 ≡ w.client.loans) is may.2), (λ isnt. (refl, λ x. refl))),
      ));
      stale = tt;
      fits = λ other a b. absurd (not_its name w.client.name other may.2 a b);
    }

-- ---- the other messages of the client's connection

-- there it is while something is gives
is_nothing : (w : World) (s : ℕ) (m : Said) → w.up ≡ m ∷ [] → is_coming (m ∷ []) s ≡ false → is_coming w.up s ≡ true → ⊥
is_nothing w s m e off on = differs (is_coming (m ∷ []) s) (sym (ap (λ (ms : List Said). is_coming ms s) e) ∙ on) off

stands_yet : (b : Bool) (up rest : List Said) (m : Said) → (b ≡ false → up ≡ []) → up ≡ m ∷ rest → b ≡ true
stands_yet true up rest m h e = refl
stands_yet false up rest m h e = absurd (none_first up m rest (h refl) e)

-- the one message that is left is what is heard
alone : (up rest : List Said) (m : Said) → up ≡ m ∷ rest → rest ≡ [] → up ≡ m ∷ []
alone up rest m e f = e ∙ ap (λ (ms : List Said). m ∷ ms) f

pub host_answers_keeps : (w : World) (n : ℕ) (rest : List Said) → Sound w → May w (Answers n rest) → Sound (step w (Answers n rest))
host_answers_keeps w n rest s may = record {
  silent = still_silent w.stands w.up rest (Ask n) s.silent may;
  within = s.within;
  phase = by w.client.link s.phase;
  stale = s.stale;
  fits = s.fits;
} where
  seen : (m : ℕ) → IsUnanswered (Ask m) w → (Ask n ≡ Ask m) × (rest ≡ []) → IsSeen m (step w (Answers n rest))
  seen m u only =
      let same : n ≡ m = one_ask n m only.0 in (
        one_reply w.down (Seen n) u.0 ∙ ap (λ (k : ℕ). Seen k ∷ []) same,
        only.1,
        λ name a b. ((u.2 name a b).0, λ x f h e. left x ((u.2 name a b).1 (stands_yet w.stands w.up rest (Ask n) s.silent may) x f h e)),
      ) where
        left : (x : ℕ) → (is_coming w.up x ≡ true) ⊎ (has (drop w.client.said w.client.unheard) x ≡ true) → has (drop w.client.said w.client.unheard) x ≡ true
        left x (inl e) = absurd (is_nothing w x (Ask n) (alone w.up rest (Ask n) may only.1) refl e)
        left x (inr e) = e

  by : (l : Link) → PhaseAt w l → PhaseAt (step w (Answers n rest)) l
  by link.Apart p = absurd (none_first w.up (Ask n) rest p.0 may)
  by link.Greeting (inl c) = absurd (hello_ask w.up rest (wanted_of w.client) n c.1 may)
  by link.Greeting (inr g) = absurd (none_first w.up (Ask n) rest g.2 may)
  by link.Talking p = absurd (subst (OnlyReleases w.client.unheard) may p.2)
  by (link.Asked m) (h, inl u) = (h, inr (seen m u (subst (AreAsked (Ask m) w.client.unheard) may u.1)))
  by (link.Asked m) (h, inr g) = absurd (none_first w.up (Ask n) rest g.1 may)
  by (link.Lending m) (h, d, inl u) = absurd (ask_lend n m (subst (AreAsked (Lend m) w.client.unheard) may u.1).0)
  by (link.Lending m) (h, d, inr g) = absurd (none_first w.up (Ask n) rest g.2 may)

-- what is lent by the first message of this lend
abbrev GrantsOf : World → ℕ → List Said → Type 0
GrantsOf w n rest =
    (m : ℕ) × (w.client.link ≡ link.Lending m) × (w.stale ≡ []) × (drop w.client.said w.client.unheard ≡ []) × IsUnanswered (Lend m) w × (rest ≡ [])

lend_open : (w : World) (n : ℕ) (rest : List Said) (l : Link) → w.up ≡ Lend n ∷ rest → w.client.link ≡ l → PhaseAt w l → GrantsOf w n rest
lend_open w n rest link.Apart e k p = absurd (none_first w.up (Lend n) rest p.0 e)
lend_open w n rest link.Greeting e k (inl c) = absurd (hello_lend w.up rest (wanted_of w.client) n c.1 e)
lend_open w n rest link.Greeting e k (inr g) = absurd (none_first w.up (Lend n) rest g.2 e)
lend_open w n rest link.Talking e k p = absurd (subst (OnlyReleases w.client.unheard) e p.2)
lend_open w n rest (link.Asked m) e k (h, inl u) = absurd (lend_ask n m (subst (AreAsked (Ask m) w.client.unheard) e u.1).0)
lend_open w n rest (link.Asked m) e k (h, inr g) = absurd (none_first w.up (Lend n) rest g.1 e)
lend_open w n rest (link.Lending m) e k (h, d, inl u) = (m, k, h, d, u, (subst (AreAsked (Lend m) w.client.unheard) e u.1).1)
lend_open w n rest (link.Lending m) e k (h, d, inr g) = absurd (none_first w.up (Lend n) rest g.2 e)

either_of : (o p : Option ℕ) (f : ℕ) → or_else o p ≡ Some f → (o ≡ Some f) ⊎ (p ≡ Some f)
either_of (Some g) p f e = inl e
either_of None p f e = inr e

has_nothing : (xs : List ℕ) (s : ℕ) → xs ≡ [] → has xs s ≡ true → ⊥
has_nothing xs s e h = differs (has xs s) h (ap (λ (ys : List ℕ). has ys s) e)

pub grants_keeps : (w : World) (n : ℕ) (ls : List Lent) (rest : List Said) → Sound w → May w (Grants n ls rest) → Sound (step w (Grants n ls rest))
grants_keeps w n ls rest s may = record {
  silent = still_silent w.stands w.up rest (Lend n) s.silent may.0;
  within = s.within;
  phase = subst (PhaseAt (step w (Grants n ls rest))) (sym gives.1) (
    gives.2,
    gives.3,
    inr (
      ls,
      one_reply w.down (Loans ls) unanswered.0,
      gives.5,
      λ name a b. (ap (λ (k : ℕ). next_loans k) (unanswered.2 name a b).0, refl, λ x f h u. given x f u ((unanswered.2 name a b).1 on x) (either_of (given_to ls x) (w.host.held x) f h)),
    ),
  );
  stale = s.stale;
  fits = λ name a b. lent_fits w.host w.client.loans (wanted_of w.client) w.client.unheard w.shown ls w.stale w.stale (s.fits name a b) (unanswered.2 name a b).0 may.1 (subst (OnlyHellos (wanted_of w.client)) (sym gives.2) tt);
} where
  gives : GrantsOf w n rest
  gives = lend_open w n rest w.client.link may.0 refl s.phase

  unanswered : IsUnanswered (Lend gives.0) w
  unanswered = gives.4

  on : w.stands ≡ true
  on = stands_yet w.stands w.up rest (Lend n) s.silent may.0

  given : (x f : ℕ) → has w.client.unheard x ≡ true → ((g : ℕ) → w.host.held x ≡ Some g → has w.client.unheard x ≡ true → (is_coming w.up x ≡ true) ⊎ (has (drop w.client.said w.client.unheard) x ≡ true)) →
      (given_to ls x ≡ Some f) ⊎ (w.host.held x ≡ Some f) → given_to ls x ≡ Some f
  given x f u told (inl e) = e
  given x f u told (inr e) = absurd (gone (told f e u)) where
    gone : (is_coming w.up x ≡ true) ⊎ (has (drop w.client.said w.client.unheard) x ≡ true) → ⊥
    gone (inl c) = is_nothing w x (Lend n) (alone w.up rest (Lend n) may.0 gives.5) refl c
    gone (inr c) = has_nothing (drop w.client.said w.client.unheard) x gives.3 c

-- ---- a release

counted_still : (w : World) (slots : List ℕ) (rest : List Said) → w.up ≡ Release slots ∷ rest → IsCounted w → IsCounted (step w (Frees slots rest))
counted_still w slots rest e old name a b = ((old name a b).0, λ on x f h u. left x (kept_slot (has slots x) (w.host.held x) f h).0 ((old name a b).1 on x f (kept_slot (has slots x) (w.host.held x) f h).1 u)) where
  left : (x : ℕ) → has slots x ≡ false → (is_coming w.up x ≡ true) ⊎ (has (drop w.client.said w.client.unheard) x ≡ true) → (is_coming rest x ≡ true) ⊎ (has (drop w.client.said w.client.unheard) x ≡ true)
  left x off (inl c) = inl (or_second (has slots x) (is_coming rest x) off (sym (ap (λ (ms : List Said). is_coming ms x) e) ∙ c))
  left x off (inr c) = inr c

-- the phase after it, that slots that were given up are released, and that all replies were counted
abbrev pub FreesIn : World → List ℕ → List Said → Link → Type 0
FreesIn w slots rest l = PhaseAt (step w (Frees slots rest)) l × Sub slots w.client.unheard × IfSame w (w.host.loans ≡ w.client.loans)

pub frees_in : (w : World) (slots : List ℕ) (rest : List Said) (l : Link) → w.up ≡ Release slots ∷ rest → PhaseAt w l → FreesIn w slots rest l
frees_in w slots rest link.Apart e p = absurd (none_first w.up (Release slots) rest p.0 e)
frees_in w slots rest link.Greeting e (inl c) = absurd (hello_release w.up rest (wanted_of w.client) slots c.1 e)
frees_in w slots rest link.Greeting e (inr g) = absurd (none_first w.up (Release slots) rest g.2 e)
frees_in w slots rest link.Talking e p = (let q : Sub slots w.client.unheard × OnlyReleases w.client.unheard rest = subst (OnlyReleases w.client.unheard) e p.2 in ((p.0, p.1, q.1, counted_still w slots rest e p.3), q.0, λ name a b. (p.3 name a b).0))
frees_in w slots rest (link.Asked n) e (h, inl u) =
    (let q : Sub slots w.client.unheard × AreAsked (Ask n) w.client.unheard rest = subst (AreAsked (Ask n) w.client.unheard) e u.1 in ((h, inl (u.0, q.1, counted_still w slots rest e u.2)), q.0, λ name a b. (u.2 name a b).0))
frees_in w slots rest (link.Asked n) e (h, inr g) = absurd (none_first w.up (Release slots) rest g.1 e)
frees_in w slots rest (link.Lending n) e (h, d, inl u) =
    (let q : Sub slots w.client.unheard × AreAsked (Lend n) w.client.unheard rest = subst (AreAsked (Lend n) w.client.unheard) e u.1 in ((h, d, inl (u.0, q.1, counted_still w slots rest e u.2)), q.0, λ name a b. (u.2 name a b).0))
frees_in w slots rest (link.Lending n) e (h, d, inr g) = absurd (none_first w.up (Release slots) rest g.2 e)

pub frees_keeps : (w : World) (slots : List ℕ) (rest : List Said) → Sound w → May w (Frees slots rest) → Sound (step w (Frees slots rest))
frees_keeps w slots rest s may =
    let k : FreesIn w slots rest w.client.link = frees_in w slots rest w.client.link may s.phase in
    record {
      silent = still_silent w.stands w.up rest (Release slots) s.silent may;
      within = s.within;
      phase = k.0;
      stale = s.stale;
      fits = λ name a b. released_fits w.host w.client.loans (wanted_of w.client) w.client.unheard slots w.shown w.stale w.stale (s.fits name a b) (k.2 name a b) k.1;
    }

-- ---- messages of connections before

abbrev heard_old : World → HostSide → List Said → World
heard_old w h rest = record w { host = h; stale = rest }

old_phase : (w : World) (h : HostSide) (m : Said) (rest : List Said) (l : Link) → w.stale ≡ m ∷ rest → PhaseAt w l → PhaseAt (heard_old w h rest) l
old_phase w h m rest link.Apart e p = p
old_phase w h m rest link.Greeting e (inl c) = inl c
old_phase w h m rest link.Greeting e (inr g) = absurd (none_first w.stale m rest g.3 e)
old_phase w h m rest link.Talking e p = absurd (none_first w.stale m rest p.0 e)
old_phase w h m rest (link.Asked n) e p = absurd (none_first w.stale m rest p.0 e)
old_phase w h m rest (link.Lending n) e p = absurd (none_first w.stale m rest p.0 e)

old_keeps : (w : World) (h : HostSide) (m : Said) (rest : List Said) → Sound w → w.stale ≡ m ∷ rest →
    ((name : List ℕ) → h.name ≡ Some name → w.client.name ≡ Some name → Fits h w.client.loans (wanted_of w.client) w.client.unheard w.shown rest) → Sound (heard_old w h rest)
old_keeps w h m rest s e fits = record {
  silent = s.silent;
  within = s.within;
  phase = old_phase w h m rest w.client.link e s.phase;
  stale = stale_rest (wanted_of w.client) w.client.unheard m rest (subst (AreStale (wanted_of w.client) w.client.unheard) e s.stale);
  fits = fits;
}

-- where another message than Hello is left of before, all replies were counted
pub all_counted : (h : HostSide) (loans : ℕ) (wanted : Option Wanted) (unheard : List ℕ) (shown : ℕ → Option ℕ) (stale : List Said) → (OnlyHellos wanted stale → ⊥) → Fits h loans wanted unheard shown stale → h.loans ≡ loans
all_counted h loans wanted unheard shown stale other fits = pick fits.counts where
  pick : (h.loans ≡ loans) ⊎ Uncounted h loans wanted shown stale → h.loans ≡ loans
  pick (inl e) = e
  pick (inr u) = absurd (other u.later)

pub old_resumes_keeps : (w : World) (wanted : Wanted) (rest : List Said) → Sound w → May w (OldResumes wanted rest) → Sound (step w (OldResumes wanted rest))
old_resumes_keeps w wanted rest s may =
    let old : (Some wanted ≡ wanted_of w.client) × OnlyHellos (wanted_of w.client) rest = subst (AreStale (wanted_of w.client) w.client.unheard) may.0 s.stale in
    let k : (w.client.name ≡ Some wanted.name) × (wanted.loans ≡ w.client.loans) = wanted_is w.client.name w.client.loans wanted (sym old.0) in
    old_keeps w (resumed wanted.loans w.host) (Hello (Some wanted)) rest s may.0 (fits_resumed w wanted rest k.1 s.fits)

pub old_starts_keeps : (w : World) (wanted : Option Wanted) (name : List ℕ) (rest : List Said) → Sound w → May w (OldStarts wanted name rest) → Sound (step w (OldStarts wanted name rest))
old_starts_keeps w wanted name rest s may = old_keeps w (fresh name) (Hello wanted) rest s may.0 (λ other a b. absurd (not_its name w.client.name other may.2 a b))

pub old_grants_keeps : (w : World) (n : ℕ) (ls : List Lent) (rest : List Said) → Sound w → May w (OldGrants n ls rest) → Sound (step w (OldGrants n ls rest))
old_grants_keeps w n ls rest s may =
    let later : OnlyHellos (wanted_of w.client) rest = subst (AreStale (wanted_of w.client) w.client.unheard) may.0 s.stale in
    old_keeps w (lent ls w.host) (Lend n) rest s may.0 (λ name a b.
    lent_fits w.host w.client.loans (wanted_of w.client) w.client.unheard w.shown ls w.stale rest (s.fits name a b)
    (all_counted w.host w.client.loans (wanted_of w.client) w.client.unheard w.shown w.stale (λ h. subst (OnlyHellos (wanted_of w.client)) may.0 h) (s.fits name a b)) may.1 later)

pub old_frees_keeps : (w : World) (slots : List ℕ) (rest : List Said) → Sound w → May w (OldFrees slots rest) → Sound (step w (OldFrees slots rest))
old_frees_keeps w slots rest s may =
    let old : Sub slots w.client.unheard × AreStale (wanted_of w.client) w.client.unheard rest = subst (AreStale (wanted_of w.client) w.client.unheard) may s.stale in
    old_keeps w (released slots w.host) (Release slots) rest s may (λ name a b.
    released_fits w.host w.client.loans (wanted_of w.client) w.client.unheard slots w.shown w.stale rest (s.fits name a b)
    (all_counted w.host w.client.loans (wanted_of w.client) w.client.unheard w.shown w.stale (λ h. subst (OnlyHellos (wanted_of w.client)) may h) (s.fits name a b)) old.0)

pub loses_keeps : (w : World) (m : Said) (rest : List Said) → Sound w → May w (Loses m rest) → Sound (step w (Loses m rest))
loses_keeps w m rest s may = old_keeps w w.host m rest s may (λ name a b.
    moved w.host w.client.loans (wanted_of w.client) w.client.unheard w.shown w.stale rest (s.fits name a b)
    (λ u. hellos_rest (wanted_of w.client) m rest (subst (OnlyHellos (wanted_of w.client)) may u.later)))

-- ---- ends

no_name : (A : Type 0) (name : List ℕ) → None ≡ Some name → A
no_name A name e = absurd (cc)

closes_phase : (w : World) (l : Link) → PhaseAt w l → PhaseAt (step w Closes) l
closes_phase w link.Apart p = (refl, p.1)
closes_phase w link.Greeting (inl c) = inl (c.0, inl refl)
closes_phase w link.Greeting (inr g) = inr (g.0, g.1, refl, g.3, g.4)
closes_phase w link.Talking p = (p.0, p.1, tt, λ name a b. ((p.3 name a b).0, λ on. absurd (differs false on refl)))
closes_phase w (link.Asked n) (e, inl u) = (e, inl (u.0, tt, λ name a b. ((u.2 name a b).0, λ on. absurd (differs false on refl))))
closes_phase w (link.Asked n) (e, inr g) = (e, inr (g.0, refl, g.2))
closes_phase w (link.Lending n) (e, d, inl u) = (e, d, inl (u.0, tt, λ name a b. ((u.2 name a b).0, λ on. absurd (differs false on refl))))
closes_phase w (link.Lending n) (e, d, inr g) = (e, d, inr (g.0, g.1, refl, g.3))

pub closes_keeps : (w : World) → Sound w → Sound (step w Closes)
closes_keeps w s = record { silent = λ e. refl; within = s.within; phase = closes_phase w w.client.link s.phase; stale = s.stale; fits = s.fits }

forgets_phase : (w : World) (l : Link) → PhaseAt w l → PhaseAt (step w Forgets) l
forgets_phase w link.Apart p = p
forgets_phase w link.Greeting (inl c) = inl c
forgets_phase w link.Greeting (inr g) = inr (g.0, g.1, g.2, g.3, λ a. no_name (IsReady g.0 (step w Forgets)) g.0 a)
forgets_phase w link.Talking p = (p.0, p.1, p.2, λ name a b. no_name _ name a)
forgets_phase w (link.Asked n) (e, inl u) = (e, inl (u.0, u.1, λ name a b. no_name _ name a))
forgets_phase w (link.Asked n) (e, inr g) = (e, inr (g.0, g.1, λ name a b. no_name _ name a))
forgets_phase w (link.Lending n) (e, d, inl u) = (e, d, inl (u.0, u.1, λ name a b. no_name _ name a))
forgets_phase w (link.Lending n) (e, d, inr g) = (e, d, inr (g.0, g.1, g.2, λ name a b. no_name _ name a))

pub forgets_keeps : (w : World) → Sound w → Sound (step w Forgets)
forgets_keeps w s = record { silent = s.silent; within = s.within; phase = forgets_phase w w.client.link s.phase; stale = s.stale; fits = λ name a b. no_name _ name a }

dies_phase : (w : World) (l : Link) → PhaseAt w l → PhaseAt (step w Dies) l
dies_phase w link.Apart p = (refl, p.1)
dies_phase w link.Greeting (inl c) = inl (c.0, inl refl)
dies_phase w link.Greeting (inr g) = inr (g.0, g.1, refl, refl, λ a. no_name (IsReady g.0 (step w Dies)) g.0 a)
dies_phase w link.Talking p = (refl, p.1, tt, λ name a b. no_name _ name a)
dies_phase w (link.Asked n) (e, inl u) = (refl, inl (u.0, tt, λ name a b. no_name _ name a))
dies_phase w (link.Asked n) (e, inr g) = (refl, inr (g.0, refl, λ name a b. no_name _ name a))
dies_phase w (link.Lending n) (e, d, inl u) = (refl, d, inl (u.0, tt, λ name a b. no_name _ name a))
dies_phase w (link.Lending n) (e, d, inr g) = (refl, d, inr (g.0, g.1, refl, λ name a b. no_name _ name a))

pub dies_keeps : (w : World) → Sound w → Sound (step w Dies)
dies_keeps w s = record { silent = λ e. refl; within = s.within; phase = dies_phase w w.client.link s.phase; stale = tt; fits = λ name a b. no_name _ name a }
