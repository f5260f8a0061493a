-- `art_new` passes to C the pointer of a loose box, and what the box owned.
use Rattle.std.proofs.Common.{◌≡◌, List, [], ◌∷◌, ◌++◌, refl, sym, subst, lit<, w32, IfOk, MutBor}
use mir.Syntax.{Body, named}
use mathlib.Core.Bool.{true, ◌&&◌}
use mir.Val.{Val, vint, vptr, has_ty}
use base.Logic.{SProp, ent, id⊢}
use base.Fraction.{full_share}
use base.Fml.{Fml, ftrue, fsep, fex, flft}
use prog.Wp.{Wp, WpFn, after_seq, at_return}
use types.Kit.{Post as After, any_q, ‵, raw, ◌⊛◌, some, later, at_ret, ◌$◌, ◌∵◌, !, qed, by, move, keep, drop, use1, join, split, fsplit, fsplit3, fjoin, fjoin3, fpack, feq_l, feq_i, pick, await, rewrite, suffices}
use types.Match.{vrt, in_variant}
use types.Part.{whole, sub}
use types.Run.{stop, fld, lit, no_more, and_then, of_opd, store, assigns, first, switches_on, exec, returns, enter}
use types.ByLocal.{alloc_all, pass_all, free_all, look_at, get, get_in, get_tag, through, sets, sets_last, lands_as, env}
use contract.Monad.{fact}
use contract.Running.{tables}
use denote.Builtin.{RawPtr, u32}
use denote.Exit.{yes}
use denote.Plain.{uint_Makes}
use denote.RattleType.{owns}
use denote.RawPtr.{Ptr, block_ptr}
use denote.Ref.{MutRef}
use denote.Signature.{plain}
use denote.Memory.{cell_at}
use denote.Steps.{nothing, owned, opens, closes, heard}
use denote.Triple.Call.{calls_at}
use denote.Triple.Clauses.{Lasts, lasts}
use denote.Triple.Spec.{triple_of}
use denote.Triple.Table.{framed}
use denote.Triple.Walked.{Stays, stay_dropped, stay_ref, walk_of, Goes-dropped, Goes-ref}
use Rattle.std.proofs.raw_atomic.Walks.{proved_at, leaves}
use Rattle.std.proofs.alloc.Calls.{α, handle_tells}
use Rattle.std.proofs.ResultValues.{and_tt}
use Rattle.std.proofs.VecSteps.Shapes.{after, head, arm_body}
use Rattle.blart_c.specs.declared.handle.ArtMap.{ArtMap}
use Rattle.std.specs.contracts.alloc.Global as Heap
use Rattle.std.proofs.BoxSteps.Form.{box_typed}
use Rattle.blart_c.specs.declared.codes.TheConstants.{NO_MEMORY}
use Rattle.blart_c.specs.Lent.{IsEmpty, owns_map}
use Rattle.blart_c.proofs.AsBox.{EH}
use Rattle.blart_c.proofs.Opened.{Out, answer_out}
use Rattle.blart_c.specs.contracts.making.boxed as callee
use Rattle.blart_c.proofs.making.boxed.Met.{met}
use Rattle.blart_c.specs.contracts.making.art_new as f
use Rattle.blart_c.proofs.making.art_new.Statement.{statement}
use Rattle.blart_c.proofs.making.art_new.Code as code

abbrev stayed : Stays f.ended.signature.params f.ended.kept
stayed = (stay_dropped (plain (λ _. Heap.the_row)) yes, (stay_ref (0 ∷ []) tt (plain (λ _. RawPtr)), tt))

pub art_new_spec : {M : Type 1} → statement M
art_new_spec 𝓤 𝓛 𝓜 𝓡 wired =
    let H = 𝓛.H in let 𝓣 = tables 𝓤 H 𝓜 𝓡 𝓡.env in let c = f.clauses 𝓛 𝓜.mem 𝓡.returns in let fn = code.function in
    let G = triple_of 𝓛 callee.signature (callee.spec 𝓛 𝓜.mem 𝓡.returns) in
    proved_at 𝓛 f.ended stayed c 𝓜 𝓡 (Goes-dropped 𝓛 1 (plain (λ _. Heap.the_row)) yes (λ κs x w. refl), (Goes-ref 𝓛 1 0 tt (plain (λ _. RawPtr)), tt))
    f.Key.name fn (code.unfolded 𝓤 H 𝓜 𝓡 wired) (λ z are.
    let κ = z.0.0.0 in let q = z.0.1.0 in let a = z.0.3.0 in let x = z.0.3.1.0 in let us = z.0.4.0 in let vs = z.0.4.1.0 in let rb = x.ref_ptr.0 in let ro = x.ref_ptr.1 in
    let Post : Val → SProp 𝓤 = (walk_of 𝓛 f.ended stayed c).post z in let Run : List Val → SProp 𝓤 = λ ws. WpFn 𝓤 H 𝓣.C 𝓣.Λ fn ws Post in
    let is_ref : vs ≡ vptr rb ro ∷ [] = are.1.0.0 in let Ref : MutBor Ptr → List Val → Fml = λ r ws. (MutRef (named 0) κ RawPtr).own_val r ws in
    qed 𝓛 (((‵ (flft κ q) ⊛ ‵ ftrue) ⊛ ‵ (owns (Heap.the_row ∷ MutRef (named 0) κ RawPtr ∷ []) z.0.3 z.0.4)) ∷ raw ((c z.0.0 z.0.3).requires z.1) ∷ []) ∵
    split ! $ split ! $ move ! (2 ∷ []) $ fsplit ! $ handle_tells EH.al ! a us (λ h ea fits. move ! (1 ∷ []) $ fsplit ! $
    rewrite ! 0 (λ (ws : List Val). ‵ ((MutRef (named 0) κ RawPtr).own_val x ws)) is_ref refl $ keep ! (2 ∷ 0 ∷ 3 ∷ []) $
    -- [the allocator; the reference; the token]
    suffices ! (Run (h ∷ vptr rb ro ∷ [])) (subst (λ (ws : List Val). ent 𝓤 (Run (h ∷ vptr rb ro ∷ [])) (Run ws)) (sym (λ i. ea i ++ (is_ref i ++ []))) (id⊢ 𝓤 (Run (h ∷ vptr rb ro ∷ [])))) $
    enter ! 𝓣.C 𝓣.Λ fn (h ∷ vptr rb ro ∷ []) Post $ alloc_all ! (λ l. pass_all ! refl (fits, ((tt, tt), tt)) $ let Ev = env fn.locals l in
    let both : Body = head (after 1 fn.body) in
    let Then : After 𝓤 H = any_q (after_seq 𝓤 H (Wp 𝓤 H 𝓣.C 𝓣.Λ Ev (after 2 fn.body) (at_return 𝓤 H Ev Post)) (at_return 𝓤 H Ev Post)) in
    let y : G.Ghost = ((tt, tt, tt, (a, tt), (h ∷ [], tt)), tt) in
    -- boxed(alloc)
    nothing ! $ move ! (1 ∷ 0 ∷ []) $ fjoin ! $ nothing ! $ join ! $ nothing ! $ move ! (1 ∷ 0 ∷ []) $ join ! $ use1 𝓛 (raw (G.pre y)) (id⊢ 𝓤 _) $
    calls_at ! (framed 𝓤 H 𝓜 𝓣) G (met 𝓤 𝓛 𝓜 𝓡 (code.calls-blart_c::making::boxed 𝓡.env wired)) y (and_then ! (get ! refl) (no_more !)) (λ v.
    use1 𝓛 (later (some (λ (r : Out.Denot). (‵ ftrue ⊛ ‵ (Out.own_val r (v ∷ []))) ⊛ some (λ (ws : Lasts callee.ended tt y.0.3). ‵ (lasts callee.ended tt y.0.3 ws) ⊛ raw (fact 𝓤 (IfOk r (λ m. IsEmpty m.value))))))) (id⊢ 𝓤 _) $
    await ! tt $ pick ! (λ r. split ! $ move ! (1 ∷ []) $ pick ! (λ _. split ! $ drop ! $ heard ! (IfOk r (λ m. IsEmpty m.value)) (λ new. split ! $ drop ! $
    answer_out ! r v
    -- Ok(loose)
    (λ m b o h' er at ev fits'. let typed = box_typed EH h' b o fits' in let p : Ptr = block_ptr b o in
    lands_as ! ev refl (and_tt (has_ty (α EH.al) h' && true) typed.0, (record { fits = lit< tt }, (typed.1, tt))) $
    first ! $ switches_on ! (get_tag ! (vrt ! refl (fld ! refl (stop !))) (whole !)) $ exec ! 𝓣.C 𝓣.Λ Ev (arm_body 0 both) Then $
    -- let Loose { at, alloc: _ } = loose;
    sets ! (of_opd ! (get_in ! (vrt ! refl (fld ! refl (stop !))) (in_variant ! 0 0 refl refl (whole !)))) refl typed $
    sets ! (of_opd ! (get_in ! (fld ! refl (stop !)) (sub ! 0 refl (whole !)))) refl (tt, tt) $
    -- *out = at;
    fjoin ! $ move ! (2 ∷ 3 ∷ []) $ fsplit3 ! $ move ! (1 ∷ 2 ∷ 3 ∷ []) $ opens ! tt RawPtr rb ro (λ ps. move ! (1 ∷ []) $ feq_l ! (λ was. rewrite ! 0 (λ (ws : List Val). ‵ (cell_at full_share RawPtr.mir ws rb ro)) was refl $
    assigns ! (of_opd ! (get ! refl)) (through ! refl (stop !)) (store ! 0 refl (tt, tt)) $
    feq_i ! (List Val) (vptr b o ∷ []) (vptr b o ∷ []) refl $ move ! (1 ∷ []) $ closes ! tt RawPtr p (vptr b o ∷ []) rb ro $ move ! (3 ∷ 0 ∷ 1 ∷ []) $ fjoin3 ! $
    use1 𝓛 (‵ (Ref (record x { now = p }) (vptr rb ro ∷ []))) (id⊢ 𝓤 _) $ rewrite ! 0 (λ (ws : List Val). ‵ (Ref (record x { now = p }) ws)) (sym is_ref) refl $
    -- [the reference; the token; what the block owns; the allocator]
    sets_last ! (of_opd ! (lit ! tt)) refl (tt, record { fits = lit< tt }) $
    exec ! 𝓣.C 𝓣.Λ Ev (after 2 fn.body) (at_ret Ev Post) $ sets ! (of_opd ! (get ! refl)) refl (tt, record { fits = lit< tt }) $
    move ! (2 ∷ []) $ nothing ! $ fpack ! (IsEmpty m.value) (λ _. ftrue) (subst (λ (s : Out.Denot). IfOk s (λ n. IsEmpty n.value)) er new) $ fjoin ! $
    fpack ! ArtMap (λ n. fsep (fex (IsEmpty n) (λ _. ftrue)) (owns_map a p n)) m.value $
    nothing ! $ move ! (2 ∷ 0 ∷ []) $ fjoin ! $ nothing ! $ fjoin ! $ nothing ! $ move ! (3 ∷ 0 ∷ []) $ join ! $ owned ! u32 _ (uint_Makes 𝓛 w32) 0 _ (refl, lit< tt) $
    returns ! (look_at ! 0 refl) $ free_all ! refl $ keep ! (1 ∷ 2 ∷ 0 ∷ 3 ∷ []) $ by ! (leaves 𝓛 f.ended stayed c z (vint w32 0) 0 (tt, (p, tt)) (tt, (tt, tt))))))
    -- Err(_)
    (λ e er ev.
    lands_as ! ev refl (tt, (record { fits = lit< tt }, (tt, tt))) $
    first ! $ switches_on ! (get_tag ! (vrt ! refl (fld ! refl (stop !))) (whole !)) $ exec ! 𝓣.C 𝓣.Λ Ev (arm_body 1 both) Then $
    sets_last ! (of_opd ! (lit ! tt)) refl (tt, record { fits = lit< tt }) $
    exec ! 𝓣.C 𝓣.Λ Ev (after 2 fn.body) (at_ret Ev Post) $ sets ! (of_opd ! (get ! refl)) refl (tt, record { fits = lit< tt }) $
    -- [the reference; the token]
    rewrite ! 0 (λ (ws : List Val). ‵ (Ref x ws)) (sym is_ref) refl $
    nothing ! $ fpack ! ((3 ≡ NO_MEMORY) × (x.now ≡ x.now)) (λ _. ftrue) (refl, refl) $ nothing ! $ move ! (2 ∷ 0 ∷ []) $ fjoin ! $ nothing ! $ fjoin ! $ nothing ! $ move ! (3 ∷ 0 ∷ []) $ join ! $ owned ! u32 _ (uint_Makes 𝓛 w32) 3 _ (refl, lit< tt) $
    returns ! (look_at ! 0 refl) $ free_all ! refl $ keep ! (1 ∷ 2 ∷ 0 ∷ 3 ∷ []) $ by ! (leaves 𝓛 f.ended stayed c z (vint w32 3) 3 (tt, (x.now, tt)) (tt, (tt, tt)))))))))))
