-- Stores, loads, reports and machines as contracts see them: just their parts, with no facts about them.
use Rattle.std.specs.Prelude.{ℕ, List}

-- a store of bytes at a place of page ppn
pub record StoreParts : Type 0 where
  pub ppn : ℕ
  pub at : ℕ
  pub bytes : List ℕ

-- a load of len bytes at a place of page ppn
pub record LoadParts : Type 0 where
  pub ppn : ℕ
  pub at : ℕ
  pub len : ℕ

-- the six numbers of a report
pub record Totals : Type 0 where
  pub entries : ℕ
  pub mapped : ℕ
  pub shared : ℕ
  pub frames : ℕ
  pub reclaimed : ℕ
  pub hints : ℕ

-- a machine's total of frames, and each guest's number of pages and salt, guest 0 first
pub record MachineParts : Type 0 where
  pub frames : ℕ
  pub pages : List ℕ
  pub salts : List ℕ
