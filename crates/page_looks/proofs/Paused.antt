-- A part that is to change doesn't change again while it pauses.
use Rattle.std.proofs.Common.{◌≡◌, ◌∙◌, ℕ, ◌-◌, ◌<◌, ◌≤◌, Bool, true, false, cond, not, ◌&&◌, List, [], ◌∷◌, length, refl, ap, sym, subst, arith}
use Rattle.std.specs.Prelude.{nat_lt, nat_le}
use Rattle.page_looks.specs.declared.parts.part.Part.{Part}
use Rattle.page_looks.specs.declared.parts.part.PartConfig.{PartConfig}
use Rattle.page_looks.specs.declared.parts.part.PartLook.{PartLook}
use Rattle.page_looks.specs.declared.parts.part.PartOrder.{PartOrder}
use Rattle.page_looks.specs.declared.parts.part.PartOrder.TheVariants.{Stay, Split, MakeWhole}
use Rattle.page_looks.specs.Parts.{is_worth, alone_then, order_of, part_then, done_then, changes, part_at, StaysAt, NoToAndFro}
use Rattle.std.proofs.lemmas.Bool.{lt-ltb}

-- what is to be done where a part doesn't pause
abbrev unpaused : PartConfig → Part → PartLook → PartOrder
unpaused config part look =
    cond part.whole (cond (look.is_loose && is_worth config look) Split Stay)
    (cond ((look.may_be_huge && look.may_lend && not look.may_pin && look.is_movable) && nat_le config.alone (alone_then config part look)) MakeWhole Stay)

while_paused : (config : PartConfig) (part : Part) (look : PartLook) → nat_lt 0 part.pause ≡ true → order_of config part look ≡ Stay
while_paused config part look p = ap (λ b. cond b Stay (unpaused config part look)) p

stays : (config : PartConfig) (part : Part) (ms : List PartLook) → length ms ≤ part.pause → StaysAt config part ms
stays config part [] h = tt
stays config part (m ∷ ms) h =
    let some : 0 < part.pause = omega (arith, h) in
    let p : nat_lt 0 part.pause ≡ true = lt-ltb 0 part.pause some in
    let order : order_of config part m ≡ Stay = while_paused config part m p in
    let next : part_at config part m ≡ record part { pause = part.pause - 1 } =
    ap (λ o. part_then config part m o) order ∙ ap (λ b. cond b (record part { pause = part.pause - 1 }) (cond part.whole part (record part { alone = alone_then config part m }))) p in
    (order, subst (λ q. StaysAt config q ms) (sym next) (stays config (record part { pause = part.pause - 1 }) ms (omega (arith, h))))

either : (b : Bool) (x y : Part) (n : ℕ) → n ≤ x.pause → n ≤ y.pause → n ≤ (cond b x y).pause
either true x y n h k = h
either false x y n h k = k

pub no_to_and_fro : NoToAndFro
no_to_and_fro config part m ms was_done c l = pick (order_of config part m) refl where
  after : PartOrder → Part
  after o = cond was_done (done_then o (part_then config part m o)) (part_then config part m o)

  pick : (o : PartOrder) → order_of config part m ≡ o → StaysAt config (after (order_of config part m)) ms
  pick Stay e = let none : false ≡ true = sym (ap changes e) ∙ c in cc
  pick Split e = subst (λ o. StaysAt config (after o) ms) (sym e) (stays config (after Split) ms (either was_done (done_then Split (part_then config part m Split)) (part_then config part m Split) (length ms) l l))
  pick MakeWhole e = subst (λ o. StaysAt config (after o) ms) (sym e) (stays config (after MakeWhole) ms (either was_done (done_then MakeWhole (part_then config part m MakeWhole)) (part_then config part m MakeWhole) (length ms) l l))
