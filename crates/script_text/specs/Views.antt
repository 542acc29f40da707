-- How what the code returns is compared with what the definitions say.
use Rattle.std.specs.Prelude.{◌≡◌, ℕ, List, ◌++◌, map, slice_index_or, slice_set, Result, Ok, Err}
use Rattle.std.specs.declared.vec.Vec.{Vec}
use Rattle.page_model.specs.declared.request.Request.{Request}
use Rattle.text_words.specs.Views.{Fails}
use Rattle.text_words.specs.declared.fault.TextFault.{TextFault}
use Rattle.script_text.specs.Texts as said
use Rattle.script_text.specs.Works.{requests_of}
use Rattle.script_text.specs.declared.script.Script.{Script}
use Rattle.script_text.specs.declared.work.Item.{Item}

-- the lists are what read says, or the call's fault is its fault, unless memory ran out
abbrev pub Fills : List (List Request) → Result (Unit {0}) TextFault → Result (List (List Request)) TextFault → Type 0
Fills lists (Ok done) read = read ≡ Ok lists
Fills lists (Err e) read = Fails e read

module _ {A : Type 0} where
  -- the guests' requests as lists
  abbrev pub lists_of : List (Vec Request A) → List (List Request)
  lists_of scripts = map (λ script. script.items) scripts

  -- a guest's list of requests grew by what a line asks for, and the others are as they were
  pub record Adds (pages : List ℕ) (item : Item) (old new : List (Vec Request A)) : Type 0 where
    pub script : Vec Request A
    pub set : new ≡ slice_set old item.guest script
    pub grown : script.items ≡ (slice_index_or old item.guest script).items ++ requests_of (slice_index_or pages item.guest 0) item.work

  -- a script as the definitions have it
  abbrev pub script_seen : Script A → said.Script
  script_seen s = record {
    frames = s.config.frames;
    pages = s.config.pages.items;
    salts = s.config.salts.items;
    ring = s.config.ring;
    journal = s.config.journal;
    scripts = lists_of s.scripts.items;
  }
