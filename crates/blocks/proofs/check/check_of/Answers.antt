-- When the loop ends nothing of the first 510 bytes is left, so the sum is the whole.
use Rattle.std.proofs.Common.{◌≡◌, ◌%◌, take, ap, ◌∙◌, arith}
use Rattle.std.proofs.lemmas.List.{at_drop_all, take_min}
use Rattle.blocks.specs.Checks.{weighted, check_of}
use Rattle.blocks.proofs.check.check_of.Goals as goal

pub returns : goal.returns
unfolding check_of
returns c =
    let block = c.args.block.now in
    let part = take c.min.result block in
    let rest : weighted c.loop-byte.weight _ ≡ 0 = at_drop_all (weighted c.loop-byte.weight) part c.loop-byte.byte-index (omega arith) in
    let whole : c.loop-byte.sum ≡ weighted 1 part = omega (arith, rest) in
    ap (λ n. n % 65521) (whole ∙ ap (weighted 1) (ap (λ n. take n block) c.min.ensures ∙ take_min 510 block))
