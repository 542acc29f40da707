-- What is done with lists of a window's pages, by its number.
use Rattle.std.specs.Prelude.{◌≡◌, ℕ, Bool, false, if◌then◌else◌, nat_eq, List, Option, Some, None}
use Rattle.process_lender.specs.Lists.{Answered, CameOfCopies, CameOfLoans, CameOfRelease, Chooses, ChoosesCopies, FindsReleases, NoAnswer, NoneFound}
use Rattle.process_lender.specs.Windows.{InPages, Lender}
use Rattle.process_lender.specs.declared.choice.Choice.TheVariants as choice
use Rattle.pageshare_window_c.specs.Looks.{config_of}
use Rattle.pageshare_window_c.specs.declared.looks.WindowLook.{WindowLook}
use Rattle.pageshare_window_c.specs.declared.process.lists.ListStep.{ListStep}
use Rattle.pageshare_window_c.specs.declared.process.lists.ListStep.TheVariants as step
use Rattle.pageshare_window_c.specs.declared.process.lists.ProcessList.{ProcessList}

-- what is done with a list, by its number
abbrev pub step_by : ℕ → Option ListStep
step_by kind =
    if nat_eq kind 1 then Some step.ToAsk
    else (if nat_eq kind 2 then Some step.Answered
    else (if nat_eq kind 3 then Some step.ToCopy
    else (if nat_eq kind 4 then Some step.Copied else (if nat_eq kind 5 then Some step.Loaned else (if nat_eq kind 6 then Some step.ToHold else (if nat_eq kind 7 then Some step.ToGiveBack else None))))))

-- What a list says of its pages.
pub record Listed : Type 0 where
  pub numbers : List ℕ
  pub fingerprints : List ℕ
  pub given : List ℕ
  pub slots : List ℕ
  pub frames : List ℕ
  pub look : WindowLook
  pub file_frames : ℕ
  pub is_heard : Bool

abbrev pub listed : List ℕ → List ℕ → List ℕ → List ℕ → List ℕ → WindowLook → ℕ → Bool → Listed
listed numbers fingerprints given slots frames look file_frames is_heard =
    record { numbers = numbers; fingerprints = fingerprints; given = given; slots = slots; frames = frames; look = look; file_frames = file_frames; is_heard = is_heard }

abbrev pub listed_of : ProcessList → Listed
listed_of l = listed l.numbers.now l.fingerprints.now l.given.now l.slots.now l.frames.now l.look l.file_frames l.is_heard

-- This is done with a list of a window's pages, or nothing.
abbrev pub ListsAs : Option ListStep → Listed → ℕ → Bool → List ℕ → List ℕ → Lender → Lender → Type 0
ListsAs None l window is answers answers_new old new = NoAnswer is answers answers_new × (new ≡ old)
ListsAs (Some step.ToAsk) l window is answers answers_new old new =
    InPages (Chooses (choice.ToAsk (config_of l.look) l.look.look) old.facts old.mappings l.numbers is answers answers_new) (NoAnswer is answers answers_new) window old new
ListsAs (Some step.Answered) l window is answers answers_new old new =
    InPages (Answered old.facts old.mappings l.numbers l.fingerprints l.given is answers answers_new) (NoAnswer is answers answers_new) window old new
ListsAs (Some step.ToCopy) l window is answers answers_new old new =
    InPages (ChoosesCopies old.facts l.numbers l.given l.fingerprints is answers answers_new) (NoAnswer is answers answers_new) window old new
ListsAs (Some step.Copied) l window is answers answers_new old new = InPages (CameOfCopies old.facts l.numbers l.given is answers answers_new) (NoAnswer is answers answers_new) window old new
ListsAs (Some step.Loaned) l window is answers answers_new old new =
    InPages (CameOfLoans l.numbers l.slots l.frames l.file_frames l.is_heard is answers answers_new) (NoAnswer is answers answers_new) window old new
ListsAs (Some step.ToHold) l window is answers answers_new old new = InPages (Chooses choice.ToHold old.facts old.mappings l.numbers is answers answers_new) (NoAnswer is answers answers_new) window old new
ListsAs (Some step.ToGiveBack) l window is answers answers_new old new =
    InPages (Chooses choice.ToGiveBack old.facts old.mappings l.numbers is answers answers_new) (NoAnswer is answers answers_new) window old new

-- the same list with these answers
abbrev pub with_answers : List ℕ → ProcessList → ProcessList
with_answers answers l = record l { answers = record l.answers { now = answers } }

-- Pages of a window are found whose slots are to be released.
abbrev pub FindsReleasesIn : ℕ → ℕ → ℕ → ℕ → List ℕ → List ℕ → Lender → Lender → Type 0
FindsReleasesIn window first n count places places_new old new = InPages (FindsReleases old.facts first n count places places_new) (NoneFound count places places_new) window old new

-- It is taken what came of the release of slots.
abbrev pub ReleasesIn : ℕ → List ℕ → Bool → Bool → Lender → Lender → Type 0
ReleasesIn window numbers is_heard is old new = InPages (CameOfRelease numbers is_heard is) (is ≡ false) window old new
