-- `from_box` calls `into_raw_with_allocator`, and moves what it returns into the parts.
use Rattle.std.proofs.Common.{◌≡◌, [], ◌∷◌, ◌++◌, refl, ap, ◌∙◌}
use mir.Syntax.{Fn, Args, a_type, dcons, dnil}
use mir.MapTy.{inst_fn}
use mir.Val.{Val, vstruct, of_list}
use mir.Raw.{raw as bare}
use base.Logic.{SProp, never, id⊢, fst∗}
use base.Fml.{ftrue, flft}
use prog.Wp.{WpFn}
use types.Logic.{sem}
use types.Kit.{‵, raw, ◌⊛◌, some, later, ◌$◌, ◌∵◌, !, qed, move, keep, drop, use1, join, split, split3, fsplit, fjoin, fpick, feq_l, pick, await, rewrite, suffices, done}
use types.Part.{whole, sub, agg}
use types.Run.{stop, fld, no_more, and_then, of_opd, returns, enter}
use types.ByLocal.{alloc_all, pass_all, free_all, look_at, get, get_in, sets, lands_as}
use contract.Monad.{fact}
use contract.Running.{tables}
use denote.Builtin.{RawPtr}
use denote.Exit.{no}
use denote.Param.{bounded}
use denote.RattleType.{RattleType, owns}
use denote.RawPtr.{Ptr, block_ptr, null_ptr, ptr_val, in_a_block}
use denote.Signature.{plain}
use denote.Steps.{nothing, heard, only}
use denote.Struct.Tuple.{Tuple}
use denote.Triple.Call.{calls_at}
use denote.Triple.Clauses.{Lasts, lasts}
use denote.Triple.Spec.{triple_of}
use denote.Triple.Table.{framed}
use denote.Triple.Walked.{says, Stays, stay_dropped, walk_of, ends_at}
use Rattle.std.proofs.raw_atomic.Walks.{proved_at}
use Rattle.std.proofs.alloc.Calls.{token, handle_tells, Goes-blank}
use Rattle.std.specs.Box.Ownership.{box_owns}
use Rattle.std.proofs.BoxSteps.Form.{Bx, B, D, R, P, τ, word, handle, box_typed}
use Rattle.std.proofs.BoxSteps.Steps.{box_out, box_in}
use Rattle.std.specs.contracts.boxed.Box.into_raw_with_allocator as callee
use Rattle.std.proofs.boxed.Box.into_raw_with_allocator.Met.{met as callee_met}
use Rattle.blart_c.proofs.BoxPartsSteps.{PartsOf, on_word}
use Rattle.blart_c.specs.contracts.box_parts.BoxParts.from_box as f
use Rattle.blart_c.specs.contracts.box_parts.BoxParts.from_box.Key.{name}
use Rattle.blart_c.proofs.box_parts.BoxParts.from_box.Statement.{statement}
use Rattle.blart_c.proofs.box_parts.BoxParts.from_box.Code as code

pub from_box_spec : {M : Type 1} → statement M
from_box_spec 𝓤 𝓛 𝓜 𝓡 wired T A LT LA g d dA dT met mA mT =
    let H = 𝓛.H in let 𝓣 = tables 𝓤 H 𝓜 𝓡 𝓡.env in
    let E : Bx = record { row = T; laws = LT; al = record { row = A; laws = LA; g = g; d = d; drops = dA } } in
    let ended = f.ended T A g d dA dT in let c = f.clauses T A g d dA dT 𝓛 𝓜.mem 𝓡.returns in
    let hs : Stays ended.signature.params ended.kept = (stay_dropped (plain (λ _. B E)) no, tt) in
    let args : Args = bounded (a_type ∷ a_type ∷ []) (T, (A, tt)) (dcons d (dcons dA (dcons dT dnil))) in
    let fn : Fn = inst_fn args code.function in
    let G = triple_of 𝓛 (callee.signature T A g d dA dT) (callee.spec T A g d dA dT 𝓛 𝓜.mem 𝓡.returns) in
    let Pair : RattleType = Tuple (RawPtr ∷ P E ∷ []) in
    proved_at 𝓛 ended hs c 𝓜 𝓡 (Goes-blank 𝓛 2 (plain (λ _. B E)) no (λ κs x w. tt), tt)
    (name args) fn (code.unfolded 𝓤 H 𝓜 𝓡 wired (T, (A, tt)) d dA dT) (λ z are.
    let κ = z.0.0.0 in let ρ = z.0.0.1.0 in let q = z.0.1.0 in let r = z.0.1.1.0 in let x : D E = z.0.3.0 in let vs = z.0.4.0 in
    let Post : Val → SProp 𝓤 = (walk_of 𝓛 ended hs c).post z in
    qed 𝓛 (((‵ (flft κ q) ⊛ ‵ (flft ρ r) ⊛ ‵ ftrue) ⊛ ‵ (owns (B E ∷ []) z.0.3 z.0.4)) ∷ raw ((c z.0.0 z.0.3).requires z.1) ∷ []) ∵
    split ! $ move ! (1 ∷ []) $ fsplit ! $ box_out E ! x vs (λ b o h at is fits. let w = word E h b o in
    suffices ! _ (on_word 𝓤 (λ us. WpFn 𝓤 H 𝓣.C 𝓣.Λ fn us Post) is) $
    box_in E ! x b o x.value at refl $ fjoin ! $ move ! (1 ∷ 0 ∷ []) $ join ! $ join ! $
    let y : G.Ghost = ((z.0.0, z.0.1, tt, z.0.3, (w ∷ [], tt)), tt) in use1 𝓛 (raw (G.pre y)) (id⊢ 𝓤 _) $
    enter ! 𝓣.C 𝓣.Λ fn (w ∷ []) Post $ alloc_all ! (λ l. pass_all ! refl (box_typed E h b o fits, tt) $
    sets ! (of_opd ! (get ! refl)) refl (box_typed E h b o fits) $
    -- Box::into_raw_with_allocator(..)
    calls_at ! (framed 𝓤 H 𝓜 𝓣) G (callee_met 𝓤 𝓛 𝓜 𝓡 (code.calls-std::boxed::Box::into_raw_with_allocator 𝓡.env wired) T A LT LA g d dA dT met mA mT) y (and_then ! (get ! refl) (no_more !)) (λ v.
    use1 𝓛 (later (some (λ (p : Pair.Denot). ((‵ (flft κ q) ⊛ ‵ (flft ρ r) ⊛ ‵ ftrue) ⊛ ‵ (Pair.own_val p (v ∷ [])))
    ⊛ some (λ (ws : Lasts (callee.ended T A g d dA dT) z.0.0 z.0.3). ‵ (lasts (callee.ended T A g d dA dT) z.0.0 z.0.3 ws) ⊛ raw (fact 𝓤 (p.1 ≡ x.alloc)) ⊛ ‵ (box_owns (token E.al x.alloc) (R E) p.0 x.value))))) (id⊢ 𝓤 _) $
    await ! tt $ pick ! (λ p. split ! $ move ! (1 ∷ []) $ pick ! (λ ws. split3 ! $ drop ! $ heard ! (p.1 ≡ x.alloc) (λ same.
    -- [what lies at the pointer; the tokens with the pair]
    in_a_block ! p.0 (λ s. box_owns (token E.al x.alloc) (R E) s x.value) (fst∗ 𝓤 (never 𝓤) (sem 𝓛 (token E.al x.alloc (bare (τ E)) null_ptr))) (λ b' o' at'. fsplit ! $
    move ! (2 ∷ []) $ split ! $ move ! (1 ∷ []) $ fpick ! (λ us. fsplit ! $ feq_l ! (λ made. fsplit ! $ feq_l ! (λ is_ptr. fsplit ! $ handle_tells E.al ! p.1 us.1.0 (λ h' is_handle fits'.
    rewrite ! 0 (λ (a : A.Denot). ‵ (handle E a h')) same refl $
    -- [the allocator; nothing; the tokens; the value; the right to free]
    let is_word : v ≡ word E h' b' o' = ap only (made ∙ (λ i. vstruct (of_list ((is_ptr ∙ ap (λ (s : Ptr). ptr_val s ∷ []) at') i ++ (is_handle i ++ []))) ∷ [])) in let typed = box_typed E h' b' o' fits' in
    lands_as ! is_word refl typed $
    sets ! (of_opd ! (get_in ! (fld ! refl (stop !)) (sub ! 0 refl (whole !)))) refl (tt, tt) $ sets ! (of_opd ! (get_in ! (fld ! refl (stop !)) (sub ! 1 refl (whole !)))) refl fits' $
    sets ! (of_opd ! (get ! refl)) refl fits' $ sets ! (agg ! (and_then ! (get ! refl) (and_then ! (get ! refl) (no_more !)))) refl typed $
    returns ! (look_at ! 0 refl) $ free_all ! refl $
    let new : D E = record { ptr = block_ptr b' o'; alloc = x.alloc; value = x.value } in
    let parts : (PartsOf E).Denot = record { ptr = new.ptr; alloc = x.alloc; value = x.value } in
    keep ! (3 ∷ 4 ∷ 0 ∷ 2 ∷ []) $ box_in E ! new b' o' x.value refl refl $ use1 𝓛 (‵ ((PartsOf E).own_val parts (word E h' b' o' ∷ []))) (id⊢ 𝓤 _) $
    suffices ! _ (ends_at 𝓛 ended hs c z (word E h' b' o') parts ((tt, (tt, tt)), tt) (tt, tt)) $ says ! refl $
    nothing ! $ nothing ! $ fjoin ! $ join ! $ move ! (1 ∷ 0 ∷ []) $ join ! $ done !))))))))))))
