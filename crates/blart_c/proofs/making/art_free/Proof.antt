-- `art_free` makes a loose box of the pointer and of what C returns to it, and releases the box.
use Rattle.std.proofs.Common.{◌≡◌, List, [], ◌∷◌, ◌++◌, refl, sym, ap, ◌∙◌, subst}
use mir.Raw.{raw as bare}
use mir.Val.{Val, vunit, vptr}
use base.Logic.{SProp, ent, never, id⊢, fst∗}
use base.Fml.{ftrue}
use prog.Wp.{WpFn}
use types.Logic.{sem}
use types.Kit.{‵, raw, ◌⊛◌, some, later, ◌$◌, ◌∵◌, !, qed, by, move, keep, drop, use1, join, split, fsplit, fjoin, feq_l, feq_i, pick, await, suffices}
use types.Part.{agg}
use types.Run.{no_more, and_then, of_opd, unit_lit, returns, enter}
use types.ByLocal.{alloc_all, pass_all, free_all, look_at, get, sets, lands_as}
use contract.Running.{tables}
use denote.Builtin.{RawPtr, unit}
use denote.Exit.{yes}
use denote.RattleType.{owns}
use denote.RawPtr.{Ptr, block_ptr, null_ptr, ptr_val, in_a_block}
use denote.Signature.{type_at, plain}
use denote.Steps.{nothing, only}
use denote.Triple.Call.{calls_at}
use denote.Triple.Clauses.{ensured}
use denote.Triple.Spec.{triple_of}
use denote.Triple.Table.{framed}
use denote.Triple.Walked.{Stays, stay_dropped, walk_of, Goes-dropped}
use Rattle.std.proofs.raw_atomic.Walks.{proved_at, leaves}
use Rattle.std.proofs.alloc.Calls.{token, handle_tells}
use Rattle.std.specs.Box.Ownership.{box_owns}
use Rattle.std.specs.contracts.alloc.Global as Heap
use Rattle.std.proofs.BoxSteps.Form.{D, B, R, τ, word, box_typed}
use Rattle.std.proofs.BoxSteps.Steps.{box_in}
use Rattle.blart_c.proofs.AsBox.{EH}
use Rattle.blart_c.specs.contracts.making.release as callee
use Rattle.blart_c.proofs.making.release.Met.{met}
use Rattle.blart_c.specs.contracts.making.art_free as f
use Rattle.blart_c.proofs.making.art_free.Statement.{statement}
use Rattle.blart_c.proofs.making.art_free.Code as code

pub art_free_spec : {M : Type 1} → statement M
art_free_spec 𝓤 𝓛 𝓜 𝓡 wired =
    let H = 𝓛.H in let 𝓣 = tables 𝓤 H 𝓜 𝓡 𝓡.env in let c = f.clauses 𝓛 𝓜.mem 𝓡.returns in
    let hs : Stays f.ended.signature.params f.ended.kept = (stay_dropped (plain (λ _. Heap.the_row)) yes, (stay_dropped (plain (λ _. RawPtr)) yes, tt)) in
    let G = triple_of 𝓛 callee.signature (callee.spec 𝓛 𝓜.mem 𝓡.returns) in let Lo = type_at {n = 0} (plain (λ _. B EH)) tt in
    proved_at 𝓛 f.ended hs c 𝓜 𝓡 (Goes-dropped 𝓛 0 (plain (λ _. Heap.the_row)) yes (λ κs x w. refl), (Goes-dropped 𝓛 0 (plain (λ _. RawPtr)) yes (λ κs x w. refl), tt))
    f.Key.name code.function (code.unfolded 𝓤 H 𝓜 𝓡 wired) (λ z are.
    let a = z.0.3.0 in let p = z.0.3.1.0 in let m = z.1 in let us = z.0.4.0 in let vs = z.0.4.1.0 in
    let Post : Val → SProp 𝓤 = (walk_of 𝓛 f.ended hs c).post z in let Run : List Val → SProp 𝓤 = λ ws. WpFn 𝓤 H 𝓣.C 𝓣.Λ code.function ws Post in
    qed 𝓛 ((‵ ftrue ⊛ ‵ (owns (Heap.the_row ∷ RawPtr ∷ []) z.0.3 z.0.4)) ∷ ‵ (box_owns (token EH.al a) (R EH) p m) ∷ []) ∵ split ! $ drop ! $ fsplit ! $
    handle_tells EH.al ! a us (λ h ea fits. move ! (1 ∷ []) $ fsplit ! $ feq_l ! (λ ev. drop ! $ move ! (1 ∷ []) $
    in_a_block ! p (λ q. box_owns (token EH.al a) (R EH) q m) (fst∗ 𝓤 (never 𝓤) (sem 𝓛 (token EH.al a (bare (τ EH)) null_ptr))) (λ b o e.
    let is : vs ≡ vptr b o ∷ [] = ev ∙ ap (λ (q : Ptr). ptr_val q ∷ []) e in let w = word EH h b o in
    let held : D EH = record { ptr = block_ptr b o; alloc = a; value = m } in
    suffices ! (Run (h ∷ vptr b o ∷ [])) (subst (λ (xs : List Val). ent 𝓤 (Run (h ∷ vptr b o ∷ [])) (Run xs)) (sym (λ i. ea i ++ (is i ++ []))) (id⊢ 𝓤 (Run (h ∷ vptr b o ∷ [])))) $
    fsplit ! $ box_in EH ! held b o m refl refl $
    enter ! 𝓣.C 𝓣.Λ code.function (h ∷ vptr b o ∷ []) Post $ alloc_all ! (λ l. pass_all ! refl (fits, ((tt, tt), tt)) $
    -- Loose { at: map, alloc }
    sets ! (agg ! (and_then ! (get ! refl) (and_then ! (get ! refl) (no_more !)))) refl (box_typed EH h b o fits) $
    let y : G.Ghost = ((tt, tt, tt, (record { ptr = block_ptr b o; alloc = a; value = m }, tt), (w ∷ [], tt)), tt) in
    nothing ! $ move ! (1 ∷ 0 ∷ []) $ fjoin ! $ nothing ! $ join ! $ nothing ! $ move ! (1 ∷ 0 ∷ []) $ join ! $ use1 𝓛 (raw (G.pre y)) (id⊢ 𝓤 _) $
    -- release(..)
    calls_at ! (framed 𝓤 H 𝓜 𝓣) G (met 𝓤 𝓛 𝓜 𝓡 (code.calls-blart_c::making::release 𝓡.env wired)) y (and_then ! (get ! refl) (no_more !)) (λ v.
    use1 𝓛 (later (some (λ (r : Unit {0}). (‵ ftrue ⊛ ‵ (unit.own_val r (v ∷ []))) ⊛ raw (ensured 𝓛 callee.ended (callee.clauses 𝓛 𝓜.mem 𝓡.returns) tt y.0.3 tt r)))) (id⊢ 𝓤 _) $
    await ! tt $ pick ! (λ r. split ! $ move ! (1 ∷ []) $ drop ! $ split ! $ drop ! $ feq_l ! (λ is_unit. lands_as ! (ap only is_unit) refl (tt, tt) $
    sets ! (of_opd ! (unit_lit !)) refl (tt, tt) $ returns ! (look_at ! 0 refl) $ free_all ! refl $
    feq_i ! (List Val) (vunit ∷ []) (vunit ∷ []) refl $ nothing ! $ nothing ! $ nothing ! $ fjoin ! $ nothing ! $ fjoin ! $ nothing ! $
    keep ! (0 ∷ 1 ∷ 3 ∷ 2 ∷ []) $ by ! (leaves 𝓛 f.ended hs c z vunit tt (tt, (tt, tt)) (tt, (tt, tt)))))))))))
