-- How few frames could hold the contents of pages, on a machine that shares pages.
use Rattle.std.specs.Prelude.{◌≡◌, ℕ, ◌≤◌, List}
use Rattle.page_model.specs.Pages.{State, used}
use Rattle.page_model.specs.Contents.{EqualPagesAreShared, different, mapped_contents}
use Rattle.page_census.specs.Contents.{Content}

-- a state of a machine in which the mapped pages have these contents, in this order, and this many frames are in use
pub record Holding (all : List Content) (frames : ℕ) : Type 0 where
  pub state : State
  pub contents_are : mapped_contents state.guests ≡ all
  pub frames_are : used state.guests ≡ frames

-- The fewest frames that hold these contents: this many are enough, and no fewer. They are as many as there are
-- different contents, and just as many are in use wherever equal pages are shared.
pub record AreFewest (all : List Content) (frames : ℕ) : Type 0 where
  pub enough : Holding all frames
  pub no_fewer : (n : ℕ) → Holding all n → frames ≤ n
  pub counted : frames ≡ different all
  pub by_sharing : (s : State) → mapped_contents s.guests ≡ all → EqualPagesAreShared s.guests → used s.guests ≡ frames
