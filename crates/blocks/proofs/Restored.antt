-- A block that was written, and what reading it answers. src/round_trip.rt names the lemma `restored`.
use Rattle.std.proofs.Common.{◌≡◌, ℕ, ◌^◌, ◌<◌, ◌≤◌, true, List, map, length, None, Ok, Err, Result, ap, ◌∙◌, arith}
use Rattle.std.proofs.lemmas.Bool.Decides.{nat_tests}
use Rattle.blocks.specs.declared.reader.Block.{Block}
use Rattle.blocks.specs.declared.refusal.Refusal.{Refusal}
use Rattle.blocks.specs.declared.writer.Entry.{Entry}
use Rattle.blocks.specs.Opening.{Opens}
use Rattle.blocks.specs.Reading.{number_of, count_of, records_of, letters_known, read_refusal}
use Rattle.blocks.specs.RoundTrip.{Restores}
use Rattle.blocks.specs.Writing.{entry_says, block_of, write_refusal}
use Rattle.blocks.proofs.Written.{count_block, number_block, records_block, block_read}

module _ (size n : ℕ) (es : List Entry) (small : n < 2 ^ 32) (accepted : write_refusal size es ≡ None) (bs : List ℕ) (wrote : bs ≡ block_of n es) where
  -- there are at most 63 records
  few : length es ≤ 63
  few = grind (arith, nat_tests)

  -- the letter of each is known
  letters : letters_known (map entry_says es) ≡ true
  letters = grind (arith, nat_tests)

  -- the reader does not refuse these bytes
  read : read_refusal bs n ≡ None
  read = ap (λ (l : List ℕ). read_refusal l n) wrote ∙ block_read n es few small letters

  -- what the reader answers at these bytes is what was handed to the writer
  pub restored : (r : Result Block Refusal) → Opens bs n r → Restores size n es r
  restored (Ok b) o =
      let bytes = o.1 ∙ wrote in
      let count = o.2 ∙ ap count_of wrote ∙ count_block n es few in (
        accepted,
        bytes,
        ap number_of bytes ∙ number_block n es few small,
        count,
        ap (λ (l : List ℕ). records_of l b.count) bytes ∙ ap (records_of (block_of n es)) count ∙ records_block n es few,
        o.3,
      )
  restored (Err e) o = cc read
