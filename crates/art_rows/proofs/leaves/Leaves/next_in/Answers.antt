use Rattle.std.proofs.Common.{◌≡◌, Some, sym, ap, ◌∙◌}
use Rattle.std.specs.Prelude.{IfSome}
use Rattle.art_rows.specs.Rows.{IsLookedUp}
use Rattle.art_rows.specs.declared.following.Following.{Following}
use Rattle.art_rows.proofs.FilingLemmas.{seen_rows}
use Rattle.art_rows.proofs.Runs.{following_step, next_row_there, row_entered}
use Rattle.art_rows.proofs.leaves.Leaves.next_in.Goals.{in-Some-first, in-None}
use Rattle.art_rows.proofs.leaves.Leaves.next_in.Goals as goal

pub returns-in-Some-clause-next : goal.returns-in-Some-clause-next
returns-in-Some-clause-next g c = sym (following_step c.args.self.now.pairs c.law.ensures.distinct c.args.id c.in-Some.next c.requires.has c.split_off_first.new.self c.args.self.now.rows c.args.following.now c.in-Some.ensures c.requires.following).0

pub returns-in-Some-clause-following : goal.returns-in-Some-clause-following
returns-in-Some-clause-following g c = (following_step c.args.self.now.pairs c.law.ensures.distinct c.args.id c.in-Some.next c.requires.has c.split_off_first.new.self c.args.self.now.rows c.args.following.now c.in-Some.ensures c.requires.following).1

pub look_up-requires : goal.look_up-requires
look_up-requires g c =
    let f = seen_rows c.self.inside c.self.view_is c.self.invariant in
    next_row_there f _ c.args.following.now.row c.requires.following.row

-- the next number is the first of the next row
pub returns-clause-next : goal.returns-clause-next
returns-clause-next g c =
    let f = seen_rows c.self.inside c.self.view_is c.self.invariant in
    let same : c.match-following.following.row ≡ c.args.following.now.row = elim c.match-following.branch [
      | in-Some-first w ↦ ap (λ b. b.row) w.following-is
      | in-None w ↦ ap (λ b. b.row) w.following-is
    ] in
    let named : c.args.following.now.row ≡ Some c.in-Some-Some.row = sym same ∙ c.in-Some-Some.is-0 in
    let looked : IfSome c.args.following.now.row (IsLookedUp c.args.self.now.rows c.match-following.first.0 c.match-following.first.1) = elim c.match-following.branch [
      | in-Some-first w ↦ rw (ap (λ t. t.0) w.first-is ∙ sym w.in-Some-first.is, ap (λ t. t.1) w.first-is ∙ w.replace.ensures.value) c.requires.following.ahead
      | in-None w ↦ rw (ap (λ t. t.0) w.first-is, ap (λ t. t.1) w.first-is) w.look_up.ensures
    ] in
    let row : IsLookedUp c.args.self.now.rows c.match-following.first.0 c.match-following.first.1 c.in-Some-Some.row = rw named at looked in
    let b : Following = record { run = c.match-following.first.1; row = c.row_after-after.result; first = c.look_up-first.result.0; rest = c.look_up-first.result.1 } in
    sym (row_entered f c.args.id c.requires.has c.args.following.now c.requires.following c.in_default.ensures c.in-Some-Some.row c.in-Some-Some.next named b (rw c.in-Some-Some.is-1 at row) c.row_after-after.ensures.next c.look_up-first.ensures).0

pub returns-clause-following : goal.returns-clause-following
returns-clause-following g c =
    let f = seen_rows c.self.inside c.self.view_is c.self.invariant in
    let same : c.match-following.following.row ≡ c.args.following.now.row = elim c.match-following.branch [
      | in-Some-first w ↦ ap (λ b. b.row) w.following-is
      | in-None w ↦ ap (λ b. b.row) w.following-is
    ] in
    let named : c.args.following.now.row ≡ Some c.in-Some-Some.row = sym same ∙ c.in-Some-Some.is-0 in
    let looked : IfSome c.args.following.now.row (IsLookedUp c.args.self.now.rows c.match-following.first.0 c.match-following.first.1) = elim c.match-following.branch [
      | in-Some-first w ↦ rw (ap (λ t. t.0) w.first-is ∙ sym w.in-Some-first.is, ap (λ t. t.1) w.first-is ∙ w.replace.ensures.value) c.requires.following.ahead
      | in-None w ↦ rw (ap (λ t. t.0) w.first-is, ap (λ t. t.1) w.first-is) w.look_up.ensures
    ] in
    let row : IsLookedUp c.args.self.now.rows c.match-following.first.0 c.match-following.first.1 c.in-Some-Some.row = rw named at looked in
    let b : Following = record { run = c.match-following.first.1; row = c.row_after-after.result; first = c.look_up-first.result.0; rest = c.look_up-first.result.1 } in
    (row_entered f c.args.id c.requires.has c.args.following.now c.requires.following c.in_default.ensures c.in-Some-Some.row c.in-Some-Some.next named b (rw c.in-Some-Some.is-1 at row) c.row_after-after.ensures.next c.look_up-first.ensures).1
