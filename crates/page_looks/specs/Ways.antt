-- What a look does with a page: nothing, or the fingerprint of the last read counts, or it reads the page; with a glance before, or without.
use Rattle.std.specs.Prelude.{◌≡◌, ℕ, ◌+◌, ◌*◌, ◌/◌, ◌%◌, ◌<◌, Bool, true, false, not, ◌&&◌, nat_eq, if◌then◌else◌}
use Rattle.page_looks.specs.declared.idle.look.Act.{Act}
use Rattle.page_looks.specs.declared.idle.look.Act.TheVariants.{Pass, Meet, Keep, Read}
use Rattle.page_looks.specs.declared.idle.look.LookConfig.{LookConfig}
use Rattle.page_looks.specs.declared.idle.look.PageLooks.{PageLooks}
use Rattle.page_looks.specs.declared.parts.part.Part.{Part}
use Rattle.page_looks.specs.declared.idle.look.Way.{Way}
use Rattle.page_looks.specs.declared.idle.look.TheConstants.{READ_EACH, READ_EACH_OVER}
use Rattle.page_looks.specs.Idle.{is_idle, is_again, glanced_by, met, read}
use Rattle.page_looks.specs.Turns.{turn_at, looks_apart, has_turn}
use Rattle.page_looks.specs.Samples.{is_in_sample}

-- of how many turns one reads an idle page that was asked about most often
abbrev pub read_each : Part → Bool → ℕ
read_each part over = if over then (if part.is_still then READ_EACH_OVER else 1) else READ_EACH

-- the fingerprint of the last read counts at the page's turn of this number
abbrev pub is_kept : Part → PageLooks → Bool → ℕ → Bool
is_kept part p over turn = is_again p && not (nat_eq (turn % read_each part over) 0)

-- the number of the page's turn
abbrev pub turn_of : LookConfig → Part → PageLooks → ℕ → ℕ → ℕ
turn_of config part p look number = turn_at look number / looks_apart config part p

-- what comes of the look, if no glance says that the page has changed
abbrev pub act_of : LookConfig → Part → PageLooks → Bool → ℕ → ℕ → Act
act_of config part p over look number =
    if nat_eq p.looks 0 && not over then Meet
    else (if not (has_turn config part p look number) then Pass
    else (if is_kept part p over (turn_of config part p look number) then Keep else Read))

-- A page with memory of its own is glanced at before it is read; and an idle one at each look, or where its part rests, and the last read
-- counts, at one look in so many.
abbrev pub glances : Part → PageLooks → Act → ℕ → ℕ → Bool
glances part p Pass look number = is_idle p
glances part p Meet look number = false
glances part p Keep look number = is_in_sample part look number
glances part p Read look number = true

abbrev pub way : LookConfig → Part → PageLooks → Bool → ℕ → ℕ → Way
way config part p over look number = record {
  glances = not over && glances part p (act_of config part p over look number) look number;
  act = act_of config part p over look number;
}

-- what comes of the look after a glance that is the last one's, or isn't
abbrev pub act_after : Way → Bool → Act
act_after w same = if w.glances && not same then Meet else w.act

-- A page of which a glance finds that it has changed is met.
abbrev pub ChangesAreMet : Type 0
ChangesAreMet = (w : Way) → w.glances ≡ true → act_after w false ≡ Meet

-- A look glances at each idle page with memory of its own that is in its sample. (Where the part doesn't rest that is each page.)
abbrev pub IdleIsGlancedAt : Type 0
IdleIsGlancedAt =
    (config : LookConfig) (part : Part) (p : PageLooks) (look number : ℕ) → is_idle p ≡ true → is_in_sample part look number ≡ true →
    (way config part p false look number).glances ≡ true

-- And at each page with memory of its own before it reads it.
abbrev pub GlancesBeforeReads : Type 0
GlancesBeforeReads =
    (config : LookConfig) (part : Part) (p : PageLooks) (look number : ℕ) → (way config part p false look number).act ≡ Read →
    (way config part p false look number).glances ≡ true

-- No glance is taken at a page over a frame, and it isn't met.
abbrev pub OverIsNeverMet : Type 0
OverIsNeverMet =
    (config : LookConfig) (part : Part) (p : PageLooks) (look number : ℕ) (same : Bool) →
    ((way config part p true look number).glances ≡ false) × ((act_after (way config part p true look number) same ≡ Meet) → ⊥)

-- The last read's fingerprint counts only if the page is idle.
abbrev pub KeptIsIdle : Type 0
KeptIsIdle =
    (config : LookConfig) (part : Part) (p : PageLooks) (over : Bool) (look number : ℕ) (same : Bool) →
    act_after (way config part p over look number) same ≡ Keep → is_idle p ≡ true

-- A new page with memory of its own is met at each look.
abbrev pub NewIsMet : Type 0
NewIsMet =
    (config : LookConfig) (part : Part) (p : PageLooks) (look number : ℕ) (same : Bool) → p.looks ≡ 0 →
    act_after (way config part p false look number) same ≡ Meet

-- Each other page that stays as it is is read: from each look on, within as many looks as its turns are apart, times those of which one
-- reads it.
abbrev pub EachIsRead : Type 0
EachIsRead =
    (config : LookConfig) (part : Part) (p : PageLooks) (over : Bool) (look number : ℕ) → (nat_eq p.looks 0 && not over) ≡ false →
    (k : ℕ) × ((k < looks_apart config part p * read_each part over) × (act_after (way config part p over (look + k) number) true ≡ Read))

-- what is known of a page after a look at which it has this fingerprint, and at which glances find this
abbrev pub then_looked : PageLooks → Act → Bool → (number fingerprint : ℕ) → (ℕ → ℕ) → PageLooks
then_looked p Pass over number fingerprint glance = p
then_looked p Meet over number fingerprint glance = met p number (glance (glanced_by p number))
then_looked p Keep over number fingerprint glance = p
then_looked p Read over number fingerprint glance = read p over fingerprint (glance fingerprint)

abbrev pub looked : LookConfig → Part → Bool → (number fingerprint : ℕ) → (ℕ → ℕ) → ℕ → PageLooks → PageLooks
looked config part over number fingerprint glance look p =
    then_looked p (act_after (way config part p over look number) (nat_eq (glance (glanced_by p number)) p.clue)) over number fingerprint glance

-- A new page that stays as it is is idle after three looks.
abbrev pub StaysIsIdle : Type 0
StaysIsIdle =
    (config : LookConfig) (part : Part) (over : Bool) (number fingerprint : ℕ) (glance : ℕ → ℕ) (one two three : ℕ) (p : PageLooks) →
    p.looks ≡ 0 →
    is_idle
    (looked config part over number fingerprint glance three
    (looked config part over number fingerprint glance two (looked config part over number fingerprint glance one p)))
    ≡ true
