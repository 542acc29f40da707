-- What every order of events keeps: each page is right over the host's frames.
use Rattle.std.specs.Prelude.{◌≡◌, ℕ, true, List, [], ◌∷◌, Some, None, slice_index}
use Rattle.window_events.specs.Windows.{Mappings, shown_in}
use Rattle.window_events.specs.declared.page.Page.{Page}
use Rattle.window_events.specs.declared.page.View.TheVariants.{Over}

-- What is right of a page over these frames: it shows what was written last, and holds the frame that it shows; while
-- a copy or a frame is fresh the page is guarded, and that copy or frame is what was written last.
pub record IsRight (frames : List ℕ) (page : Page) : Type 0 where
  pub shows : shown_in frames page.view ≡ page.last
  pub holds : (n : ℕ) → page.view ≡ Over n None → page.held ≡ Some n
  pub copy_waits : page.copy_fresh ≡ true → page.guarded ≡ true
  pub frame_waits : page.frame_fresh ≡ true → page.guarded ≡ true
  pub copied : (x : ℕ) → page.copy_fresh ≡ true → page.copy ≡ Some x → x ≡ page.last
  pub lends : (n : ℕ) → page.frame_fresh ≡ true → page.held ≡ Some n → slice_index frames n ≡ page.last

-- each of these pages is right
abbrev pub AllRight : List ℕ → List Page → Type 0
AllRight frames [] = Unit {0}
AllRight frames (page ∷ pages) = IsRight frames page × AllRight frames pages

-- each page is right over the frames
pub record IsWhole (w : Mappings) : Type 0 where
  pub each : AllRight w.frames w.pages
