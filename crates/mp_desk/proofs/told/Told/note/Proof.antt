-- Nothing is done: the borrow is opened, and closed at a list that is one event longer.
use Rattle.std.proofs.Common.{List, [], ◌∷◌, ◌++◌, refl}
use Rattle.std.proofs.raw_atomic.Walks.{proved}
use base.Logic.{id⊢}
use base.Fml.{ftrue, flft}
use mir.Syntax.{named}
use mir.Val.{Val, vunit}
use types.Kit.{‵, ◌⊛◌, ◌$◌, ◌∵◌, !, qed, done, move, keep, drop, use1, split, join, fsplit, fsplit3, fjoin, fjoin3, feq_i, suffices, frame}
use types.Run.{enter, of_opd, unit_lit, returns}
use types.ByLocal.{alloc_all, pass_all, free_all, look_at, sets}
use denote.RattleType.{owns}
use denote.Exit.{yes}
use denote.Ref.{MutRef, ShrRef, mut_vals, mut_Tells, shr_vals, shr_Tells}
use denote.Signature.{plain}
use denote.Steps.{opens, closes}
use denote.Triple.Walked.{Stays, walk_of, says, stay_ref, Goes-ref, stay_none_ref, Goes-none_ref, ends_at}
use Rattle.mp_record.specs.contracts.event.Event.{the_row as E}
use Rattle.mp_desk.specs.declared.told.Told.{Told}
use Rattle.mp_desk.specs.contracts.told.Told.{the_row as R}
use Rattle.mp_desk.specs.contracts.told.Told.note as f
use Rattle.mp_desk.proofs.told.Told.note.Statement.{statement}
use Rattle.mp_desk.proofs.told.Told.note.Code as code

abbrev stayed : Stays f.ended.signature.params f.ended.kept
stayed = (stay_ref (0 ∷ []) tt (plain (λ _. R)), (stay_none_ref (1 ∷ []) tt (plain (λ _. E)) yes, tt))

pub note_spec : {M : Type 1} → statement M
note_spec 𝓤 𝓛 𝓜 𝓡 wired =
    let c = f.clauses 𝓛 𝓜.mem 𝓡.returns in let W = walk_of 𝓛 f.ended stayed c in
    proved 𝓛 f.ended stayed c 𝓜 𝓡 (Goes-ref 𝓛 2 0 tt (plain (λ _. R)), (Goes-none_ref 𝓛 2 (1 ∷ []) tt (plain (λ _. E)) yes, tt))
    f.Key.name code.function (code.unfolded 𝓤 𝓛.H 𝓜 𝓡 wired)
    (λ κs. (mut_vals, (shr_vals, tt))) (λ κs. (mut_Tells (named 0) κs.0 R, (shr_Tells (named 1) κs.1.0 E, tt)))
    (λ κs qs bounds a _ are.
    let b = a.0.ref_ptr.0 in let o = a.0.ref_ptr.1 in
    let at : List Val × (List Val × Unit {0}) = (mut_vals a.0, (shr_vals a.1.0, tt)) in
    let after : Told = record { events = a.0.now.events ++ a.1.0.now ∷ [] } in
    let y : W.Ghost = ((κs, qs, bounds, a, at), tt) in
    qed 𝓛 (((‵ (flft κs.0 qs.0) ⊛ (‵ (flft κs.1.0 qs.1.0) ⊛ ‵ ftrue)) ⊛ ‵ (owns (MutRef (named 0) κs.0 R ∷ ShrRef (named 1) κs.1.0 E ∷ []) a at)) ∷ ‵ ftrue ∷ []) ∵
    split ! $ split ! $ move ! (2 ∷ []) $ fsplit ! $ fsplit3 ! $ drop ! $ keep ! (0 ∷ 1 ∷ 3 ∷ 2 ∷ 4 ∷ []) $
    -- [self, in two parts; its token; the event; their token]
    enter ! _ _ _ _ _ $ alloc_all ! (λ l. pass_all ! refl ((tt, tt), ((tt, tt), tt)) $
    opens ! tt R b o (λ vs.
    sets ! (of_opd ! (unit_lit !)) refl (tt, tt) $
    move ! (1 ∷ []) $ use1 𝓛 (‵ (R.own_val after vs)) (id⊢ 𝓤 _) $ move ! (1 ∷ 0 ∷ []) $ closes ! tt R after vs b o $
    returns ! (look_at ! 0 refl) $ free_all ! refl $ keep ! (0 ∷ 1 ∷ 2 ∷ 3 ∷ 4 ∷ []) $
    suffices ! _ (ends_at 𝓛 f.ended stayed c y vunit tt (after, (tt, tt)) (tt, (tt, tt))) $ says ! refl $
    move ! (2 ∷ 4 ∷ []) $ join ! $ frame ! $
    feq_i ! (List Val) (mut_vals a.0) (mut_vals a.0) refl $ fjoin3 ! $ fjoin ! $
    feq_i ! (List Val) (vunit ∷ []) (vunit ∷ []) refl $ move ! (1 ∷ 0 ∷ []) $ done !)))
