-- `address` makes a pointer of a reference, and keeps nothing of what the reference owns.
use Rattle.std.proofs.Common.{List, [], ◌∷◌, refl}
use base.Fml.{ftrue, flft}
use mir.Syntax.{named}
use mir.Val.{Val, vptr}
use types.ByLocal.{alloc_all, pass_all, free_all, look_at, get, through, sets}
use types.Kit.{‵, ◌⊛◌, ◌$◌, ◌∵◌, !, qed, done, move, keep, split, join, feq_i, suffices, group}
use types.Run.{enter, of_opd, addr, stop, returns}
use denote.Array.{Array}
use denote.Builtin.{u8, RefOf, ArrayOf}
use denote.Exit.{yes}
use denote.RawPtr.{block_ptr}
use denote.Ref.{ShrRef, shr_vals, shr_Tells}
use denote.Signature.{Slot, plain}
use denote.Steps.{nothing}
use denote.Triple.Walked.{Stays, walk_of, stay_dropped, ends_at}
use Rattle.core.proofs.alloc.Calls.{Goes-blank}
use Rattle.std.proofs.raw_atomic.Walks.{proved}
use Rattle.pageshare_c.proofs.find.address.Code as code
use Rattle.pageshare_c.proofs.find.address.Statement.{statement}
use Rattle.pageshare_c.specs.contracts.find.address as f

abbrev page : Slot 1
page = RefOf (0 ∷ []) tt (ArrayOf (plain (λ κs. u8)) (λ κs. tt) 4096) (λ κs. tt)

abbrev stayed : Stays f.ended.signature.params f.ended.kept
stayed = (stay_dropped page yes, tt)

pub address_spec : {M : Type 1} → statement M
address_spec 𝓤 𝓛 𝓜 𝓡 wired =
    let c = f.clauses 𝓛 𝓜.mem 𝓡.returns in let W = walk_of 𝓛 f.ended stayed c in
    proved 𝓛 f.ended stayed c 𝓜 𝓡 (Goes-blank 𝓛 1 page yes (λ κs x w. tt), tt)
    f.Key.name code.function (code.unfolded 𝓤 𝓛.H 𝓜 𝓡 wired)
    (λ κs. (shr_vals, tt)) (λ κs. (shr_Tells (named 0) κs.0 (Array u8 4096), tt)) (λ κs qs bounds a _ are.
    let r = a.0 in let b = r.ref_ptr.0 in let o = r.ref_ptr.1 in let vs = shr_vals r in
    let y : W.Ghost = ((κs, qs, bounds, a, (vs, tt)), tt) in
    qed 𝓛 (((‵ (flft κs.0 qs.0) ⊛ ‵ ftrue) ⊛ ‵ ((ShrRef (named 0) κs.0 (Array u8 4096)).own_val r vs) ⊛ ‵ ftrue) ∷ ‵ ftrue ∷ []) ∵
    split ! $ keep ! (0 ∷ []) $
    enter ! _ _ _ _ _ $ alloc_all ! (λ l. pass_all ! refl ((tt, tt), tt) $
    sets ! (addr ! (through ! refl (stop !))) refl (tt, tt) $
    sets ! (of_opd ! (get ! refl)) refl (tt, tt) $
    returns ! (look_at ! 0 refl) $ free_all ! refl $
    suffices ! _ (ends_at 𝓛 f.ended stayed c y (vptr b o) (block_ptr b o) (tt, tt) (tt, tt)) $
    feq_i ! (List Val) (vptr b o ∷ []) (vptr b o ∷ []) refl $ nothing ! $ nothing ! $ join ! $ move ! (2 ∷ 0 ∷ 1 ∷ []) $ group ! 3 $
    nothing ! $ move ! (1 ∷ 0 ∷ []) $ done !))
