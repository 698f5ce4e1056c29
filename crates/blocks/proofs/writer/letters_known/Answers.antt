-- The chain asks each letter once, and what the entries say has the letters of the entries.
use Rattle.std.proofs.Common.{sym, ◌∙◌, rules}
use Rattle.std.proofs.lemmas.Iterator.{YieldsList-from_slice}
use Rattle.std.proofs.lemmas.Iterator.Search.{all_from_yields_List}
use Rattle.std.proofs.lemmas.List.Folds.{list_all-map}
use Rattle.blocks.specs.Records.{Said, known}
use Rattle.blocks.specs.Writing.{entry_says}
use Rattle.blocks.proofs.writer.letters_known.Goals as goal

pub returns : goal.returns
returns c =
    all_from_yields_List (λ e. known e.letter) _ _ _ c.all.ensures.ran (YieldsList-from_slice c.args.entries.now c.iter.ensures.rest) (λ x b q k. search rules)
    ∙ sym (list_all-map (λ (s : Said). known s.letter) entry_says c.args.entries.now)
