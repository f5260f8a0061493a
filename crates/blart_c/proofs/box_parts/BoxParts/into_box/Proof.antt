-- `into_box` passes the parts to `from_raw`.
use Rattle.std.proofs.Common.{◌≡◌, List, [], ◌∷◌, refl, sym, ap, subst}
use lib.Dec.{T as IsSo}
use mir.Syntax.{Fn}
use mir.MapTy.{inst_fn}
use mir.Val.{Val, vptr, has_ty, WT}
use base.Logic.{SProp, id⊢}
use base.Fml.{ftrue, flft}
use prog.Wp.{Env, WpFn}
use types.Kit.{‵, raw, ◌⊛◌, some, later, at_ret, ◌$◌, ◌∵◌, !, qed, move, keep, drop, use1, join, split, split3, fsplit, fjoin, feq_i, pick, await, rewrite, suffices, done}
use types.Part.{whole, sub}
use types.Run.{stop, fld, no_more, and_then, of_opd, first, blocks, exec, returns, enter}
use types.ByLocal.{alloc_all, pass_all, free_all, look_at, get, get_in, sets, lands_last, env}
use contract.BorrowLft.{◌⊑◌}
use contract.Monad.{fact}
use contract.Running.{tables}
use denote.Exit.{no}
use denote.RattleType.{owns}
use denote.RawPtr.{block_ptr}
use denote.Signature.{plain}
use denote.Steps.{nothing, heard, only}
use denote.Triple.Call.{calls_at_last}
use denote.Triple.Clauses.{Lasts, lasts}
use denote.Triple.Spec.{triple_of}
use denote.Triple.Table.{framed}
use denote.Triple.Walked.{says, Stays, stay_dropped, walk_of, ends_at}
use Rattle.std.proofs.raw_atomic.Walks.{proved_at}
use Rattle.std.proofs.alloc.Calls.{token, Goes-blank}
use Rattle.std.specs.Box.Ownership.{box_owns}
use Rattle.std.proofs.VecSteps.Shapes.{after}
use Rattle.std.proofs.BoxSteps.Form.{Bx, args, B, D, R, word, box_ty, box_typed}
use Rattle.std.proofs.BoxSteps.Steps.{box_out, box_in}
use Rattle.std.specs.contracts.boxed.Box.from_raw as callee
use Rattle.std.proofs.boxed.Box.from_raw.Met.{met as callee_met}
use Rattle.blart_c.proofs.BoxPartsSteps.{PartsOf, on_word}
use Rattle.blart_c.specs.contracts.box_parts.BoxParts.into_box as f
use Rattle.blart_c.specs.contracts.box_parts.BoxParts.into_box.Key.{name}
use Rattle.blart_c.proofs.box_parts.BoxParts.into_box.Statement.{statement}
use Rattle.blart_c.proofs.box_parts.BoxParts.into_box.Code as code

pub into_box_spec : {M : Type 1} → statement M
into_box_spec 𝓤 𝓛 𝓜 𝓡 wired T A LT LA g d dA met mA =
    let H = 𝓛.H in let 𝓣 = tables 𝓤 H 𝓜 𝓡 𝓡.env in
    let E : Bx = record { row = T; laws = LT; al = record { row = A; laws = LA; g = g; d = d; drops = dA } } in
    let ended = f.ended T A g d dA in let c = f.clauses T A g d dA 𝓛 𝓜.mem 𝓡.returns in
    let hs : Stays ended.signature.params ended.kept = (stay_dropped (plain (λ _. PartsOf E)) no, tt) in
    let fn : Fn = inst_fn (args E) code.function in
    let G = triple_of 𝓛 (callee.signature T A g d dA) (callee.spec T A g d dA 𝓛 𝓜.mem 𝓡.returns) in
    proved_at 𝓛 ended hs c 𝓜 𝓡 (Goes-blank 𝓛 2 (plain (λ _. PartsOf E)) no (λ κs x w. tt), tt)
    (name (args E)) fn (code.unfolded 𝓤 H 𝓜 𝓡 wired (T, (A, tt)) d dA) (λ z are.
    let κ = z.0.0.0 in let ρ = z.0.0.1.0 in let q = z.0.1.0 in let r = z.0.1.1.0 in let parts : (PartsOf E).Denot = z.0.3.0 in let vs = z.0.4.0 in
    let x : D E = record { ptr = parts.ptr; alloc = parts.alloc; value = parts.value } in
    let Post : Val → SProp 𝓤 = (walk_of 𝓛 ended hs c).post z in
    qed 𝓛 (((‵ (flft κ q) ⊛ ‵ (flft ρ r) ⊛ ‵ ftrue) ⊛ ‵ (owns (PartsOf E ∷ []) z.0.3 z.0.4)) ∷ (raw (fact 𝓤 (κ ⊑ T.lives)) ⊛ raw (fact 𝓤 (ρ ⊑ A.lives)) ⊛ ‵ ftrue) ∷ []) ∵
    split ! $ move ! (1 ∷ []) $ fsplit ! $ use1 𝓛 (‵ ((B E).own_val x vs)) (id⊢ 𝓤 _) $ box_out E ! x vs (λ b o h at is fits. let w = word E h b o in
    suffices ! _ (on_word 𝓤 (λ us. WpFn 𝓤 H 𝓣.C 𝓣.Λ fn us Post) is) $
    -- [the value; the right to free; the allocator; nothing; the tokens; that T and A outlive them]
    enter ! 𝓣.C 𝓣.Λ fn (w ∷ []) Post $ alloc_all ! (λ l. pass_all ! refl (box_typed E h b o fits, tt) $ let En : Env 𝓤 H = env fn.locals l in
    sets ! (of_opd ! (get_in ! (fld ! refl (stop !)) (sub ! 0 refl (whole !)))) refl (tt, tt) $ sets ! (of_opd ! (get_in ! (fld ! refl (stop !)) (sub ! 1 refl (whole !)))) refl fits $
    first ! $ blocks ! $ sets ! (of_opd ! (get ! refl)) refl fits $
    let y : G.Ghost = ((z.0.0, z.0.1, tt, (x.alloc, (block_ptr b o, tt)), (h ∷ [], (vptr b o ∷ [], tt))), x.value) in
    fjoin ! $ use1 𝓛 (‵ (box_owns (token E.al x.alloc) (R E) (block_ptr b o) x.value)) (id⊢ 𝓤 _) $
    move ! (4 ∷ []) $ split3 ! $ move ! (1 ∷ 3 ∷ []) $ join ! $ move ! (1 ∷ 0 ∷ []) $ join ! $
    nothing ! $ feq_i ! (List Val) (vptr b o ∷ []) (vptr b o ∷ []) refl $ fjoin ! $ move ! (3 ∷ 0 ∷ []) $ fjoin ! $ move ! (4 ∷ 0 ∷ []) $ join ! $ join ! $
    use1 𝓛 (raw (G.pre y)) (id⊢ 𝓤 _) $
    -- Box::from_raw(alloc, ptr)
    calls_at_last ! (framed 𝓤 H 𝓜 𝓣) G (callee_met 𝓤 𝓛 𝓜 𝓡 (code.calls-std::boxed::Box::from_raw 𝓡.env wired) T A LT LA g d dA met mA) y (and_then ! (get ! refl) (and_then ! (get ! refl) (no_more !))) (λ v.
    use1 𝓛 (later (some (λ (s : (B E).Denot). ((‵ (flft κ q) ⊛ ‵ (flft ρ r) ⊛ ‵ ftrue) ⊛ ‵ ((B E).own_val s (v ∷ [])))
    ⊛ some (λ (ws : Lasts (callee.ended T A g d dA) z.0.0 y.0.3). ‵ (lasts (callee.ended T A g d dA) z.0.0 y.0.3 ws) ⊛ raw (fact 𝓤 (s.value ≡ x.value)) ⊛ raw (fact 𝓤 (s.alloc ≡ x.alloc)))))) (id⊢ 𝓤 _) $
    await ! tt $ pick ! (λ s. split ! $ move ! (1 ∷ []) $ pick ! (λ ws. split3 ! $ drop ! $ heard ! (s.value ≡ x.value) (λ same. drop ! $ split ! $ move ! (1 ∷ []) $
    box_out E ! s (v ∷ []) (λ b' o' h' at' is' fits'.
    let typed = subst (λ (u : Val). IsSo (has_ty (box_ty E) u) × WT u) (sym (ap only is')) (box_typed E h' b' o' fits') in
    lands_last ! refl typed $ exec ! 𝓣.C 𝓣.Λ En (after 3 fn.body) (at_ret En Post) $ sets ! (of_opd ! (get ! refl)) refl typed $
    returns ! (look_at ! 0 refl) $ free_all ! refl $ keep ! (0 ∷ 1 ∷ 2 ∷ 3 ∷ []) $
    box_in E ! s b' o' s.value at' refl $ rewrite ! 0 (λ (us : List Val). ‵ ((B E).own_val s us)) (sym is') refl $
    suffices ! _ (ends_at 𝓛 ended hs c z v s ((tt, (tt, tt)), tt) (tt, tt)) $ says ! same $
    nothing ! $ nothing ! $ fjoin ! $ join ! $ move ! (1 ∷ 0 ∷ []) $ join ! $ done !))))))))
