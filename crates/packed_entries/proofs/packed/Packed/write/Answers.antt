use Rattle.std.proofs.Common.{◌<◌, ◌∙◌, ap, rules}
use Rattle.packed_entries.specs.declared.entry.Entry.TheVariants.{Shared, Hint}
use Rattle.packed_entries.specs.Packing.{hint_word, unpacked, unpacked_words}
use Rattle.packed_entries.proofs.Words.{words_read, shared_read, hint_read, packed_is}
use Rattle.packed_entries.proofs.packed.Packed.write.Goals as goal

pub returns-in-Shared-clause-read_back : goal.returns-in-Shared-clause-read_back
returns-in-Shared-clause-read_back c =
    let hash_fits : c.in-Shared.hash < 18446744073709551616 = search rules in
    let count_fits : c.in-Shared.count < 65536 = search rules in
    ap unpacked c.bytes_of.ensures
    ∙ words_read c.in-Shared.hash c.tail_word.result hash_fits c.tail_word.type_inv
    ∙ ap (unpacked_words c.in-Shared.hash) c.tail_word.ensures.value
    ∙ shared_read c.in-Shared.hash c.get.result c.in-Shared.count c.get-link.result c.get.ensures.fits count_fits c.get-link.ensures.fits
    ∙ packed_is c.args.self.now (Shared c.in-Shared.hash c.get.result c.in-Shared.count) c.get-link.result (rw c.get.ensures.value c.in-Shared.is) c.get-link.ensures.value

pub returns-in-Hint-clause-read_back : goal.returns-in-Hint-clause-read_back
returns-in-Hint-clause-read_back c =
    let key_fits : c.in-Hint.key < 4294967296 = search rules in
    let guest_fits : c.in-Hint.guest < 256 = search rules in
    ap unpacked c.bytes_of-in-Hint.ensures
    ∙ words_read c.hint_word.result c.tail_word-in-Hint.result c.hint_word.type_inv c.tail_word-in-Hint.type_inv
    ∙ ap (λ f. unpacked_words f c.tail_word-in-Hint.result) c.hint_word.ensures.value
    ∙ ap (unpacked_words (hint_word c.in-Hint.key c.in-Hint.guest c.get-in-Hint.result)) c.tail_word-in-Hint.ensures.value
    ∙ hint_read c.in-Hint.key c.in-Hint.guest c.get-in-Hint.result c.get-in-Hint-2.result c.get-link.result key_fits guest_fits c.get-in-Hint.ensures.fits c.get-in-Hint-2.ensures.fits c.get-link.ensures.fits
    ∙ packed_is c.args.self.now (Hint c.in-Hint.key c.in-Hint.guest c.get-in-Hint.result c.get-in-Hint-2.result) c.get-link.result (rw (c.get-in-Hint.ensures.value, c.get-in-Hint-2.ensures.value) c.in-Hint.is) c.get-link.ensures.value
