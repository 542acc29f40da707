use Rattle.std.proofs.Common.{refl, ap, sym, ◌∙◌, arith, ◌≡◌, Some, ℕ}
use Rattle.share_table.specs.TableMaps.{SharedFrame}
use Rattle.page_model.specs.Pages.{peers}
use Rattle.merge_core.specs.Pmap.{bytes_in}
use Rattle.merge_core.specs.View.{guests_of}
use Rattle.merge_core.proofs.moves.peers_of.Goals as goal

pub returns-clause-found : goal.returns-clause-found
returns-clause-found g c =
    let l = c.requires.whole.ties.shares.listed c.args.page.guest c.args.page.ppn c.args.page.salt c.args.mpn c.requires.page in
    let here = rw (← c.requires.code) at l.here in
    let count : c.count.result ≡ l.count = rw here at c.count.ensures in
    here ∙ ap (λ (x : ℕ). let f : SharedFrame = record { mpn = c.args.mpn; count = x } in Some f) (sym count)

pub returns-clause-peers : goal.returns-clause-peers
returns-clause-peers g c =
    let l = c.requires.whole.ties.shares.listed c.args.page.guest c.args.page.ppn c.args.page.salt c.args.mpn c.requires.page in
    let here = rw (← c.requires.code) at l.here in
    let count : c.count.result ≡ l.count = rw here at c.count.ensures in
    let w = c.requires.whole.ties.shares.well c.args.code _ here in
    let salts = c.requires.whole.ties.noted.salts c.args.page.guest c.args.page.ppn c.args.page.salt _ c.args.mpn c.requires.page refl in
    count ∙ w.count ∙ ap (λ (x : ℕ). peers x (bytes_in c.args.held.now.frames c.args.mpn) (guests_of c.args.held.now)) salts

pub returns-clause-some : goal.returns-clause-some
returns-clause-some g c =
    let l = c.requires.whole.ties.shares.listed c.args.page.guest c.args.page.ppn c.args.page.salt c.args.mpn c.requires.page in
    let here = rw (← c.requires.code) at l.here in
    let count : c.count.result ≡ l.count = rw here at c.count.ensures in
    let w = c.requires.whole.ties.shares.well c.args.code _ here in
    omega (arith, count, w.some)
