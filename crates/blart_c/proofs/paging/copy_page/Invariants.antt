use Rattle.std.proofs.Common.{map}
use Rattle.blart_c.proofs.PageSteps.{HasCopied}
use Rattle.blart_c.proofs.paging.copy_page.Given as goal

abbrev pub invariant-loop-key : goal.invariant-loop-key
invariant-loop-key l =
    HasCopied l.initial.key-iterator l.key-iterator (map (λ p. (p.0.now, p.1.now)) l.yielded) l.count l.used
    l.initial.keys l.keys l.initial.ends l.ends l.initial.values l.values
