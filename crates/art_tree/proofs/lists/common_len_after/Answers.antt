use Rattle.std.proofs.Common.{◌≡◌, ℕ, List, length, take, drop, ◌-◌, subst}
use Rattle.std.proofs.lemmas.List.{take_rest}
use Rattle.blart_keys.specs.Bytes.{common}
use Rattle.art_tree.proofs.lists.common_len_after.Goals as goal

pub returns : goal.returns
returns c =
    let a = c.args.a.now in
    let b = c.args.b.now in
    let n = c.args.start in
    subst (λ (z : List ℕ). c.common_len.result ≡ length (common z (drop n b))) (take_rest a n)
    (subst (λ (z : List ℕ). c.common_len.result ≡ length (common (take (length a - n) (drop n a)) z)) (take_rest b n) c.common_len.ensures)
