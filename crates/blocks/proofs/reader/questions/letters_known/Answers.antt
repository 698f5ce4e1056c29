-- The chain asks the letter of each record once, in the order of the places.
use Rattle.std.proofs.Common.{refl, sym, ◌∙◌, arith, rules}
use Rattle.std.specs.List.{range_with_len}
use Rattle.std.proofs.lemmas.Iterator.{YieldsList-from_range}
use Rattle.std.proofs.lemmas.Iterator.Search.{all_from_yields_List}
use Rattle.std.proofs.lemmas.List.Folds.{list_all-map}
use Rattle.blocks.specs.Records.{Said, known}
use Rattle.blocks.specs.Reading.{said_at, records_of}
use Rattle.blocks.proofs.reader.questions.letters_known.Goals as goal

pub returns : goal.returns
unfolding records_of
returns c =
    let bytes = c.args.bytes.now in
    let count = c.args.count in
    all_from_yields_List (λ i. known (said_at bytes i).letter) _ _ _ c.all.ensures.ran (YieldsList-from_range 0 count count refl (omega arith)) (λ x b q k. search rules)
    ∙ sym (list_all-map (λ (s : Said). known s.letter) (said_at bytes) (range_with_len 0 count))
