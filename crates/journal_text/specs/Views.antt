-- How what the code returns is compared with what the definitions say.
use Rattle.journal_text.specs.Texts as said
use Rattle.journal_text.specs.declared.head.Head.{Head}
use Rattle.journal_text.specs.declared.journal.Journal.{Journal}

-- a journal as the definitions have it
abbrev pub journal_seen : {A : Type 0} → Journal A → said.Journal
journal_seen j = record { frames = j.frames; pages = j.pages.items; salts = j.salts.items; entries = j.entries.items }

-- what the first lines say, as the definitions have it
abbrev pub head_seen : {A : Type 0} → Head A → said.Head
head_seen h = record { version = h.version; frames = h.frames; pages = h.pages.items; salts = h.salts.items }
