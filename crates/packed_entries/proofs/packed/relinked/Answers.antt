use Rattle.std.proofs.Common.{◌≡◌, ℕ, ◌++◌, IsSome, Some, refl, ap, ◌∙◌}
use Rattle.std.specs.Int.{w64, to_be_bytes}
use Rattle.packed_entries.specs.Packing.{unpacked, unpacked_words}
use Rattle.packed_entries.specs.Places.{packed_or, with_link}
use Rattle.packed_entries.proofs.Words.{words_read, words_relinked, relinked_word, relinked_fits}
use Rattle.packed_entries.proofs.packed.relinked.Goals as goal

pub returns : goal.returns
returns c =
    let f : ℕ = c.word_at.result in
    let s : ℕ = c.word_at-second.result in
    let l : ℕ = c.args.link in
    let whole : unpacked_words f s ≡ unpacked c.args.bytes.now = rw (c.word_at.ensures, c.word_at-second.ensures) refl in
    let read : IsSome (unpacked_words f s) = rw (c.word_at.ensures, c.word_at-second.ensures) c.requires.read in
    let word : ℕ = relinked_word s l in
    let put : c.bytes_of.result ≡ to_be_bytes w64 f ++ to_be_bytes w64 word = rw (← c.from.ensures) c.bytes_of.ensures in
    let written : unpacked c.bytes_of.result ≡ unpacked_words f word = ap unpacked put ∙ words_read f word c.word_at.type_inv (relinked_fits s l c.word_at-second.type_inv c.requires.link) in
    written ∙ words_relinked f s l c.requires.link read ∙ ap (λ o. Some (with_link (packed_or o) l)) whole
