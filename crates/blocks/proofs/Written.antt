-- The bytes of a block that was written, as they are read.
use Rattle.std.proofs.Common.{◌≡◌, ℕ, zero, suc, ◌+◌, ◌-◌, ◌*◌, ◌/◌, ◌%◌, ◌^◌, ◌<◌, ◌≤◌, true, List, [], ◌∷◌, ◌++◌, map, length, get_or, take, drop, replicate, None, sym, refl, ap, ◌∙◌, arith}
use Rattle.std.specs.List.{flat_map}
use Rattle.std.proofs.lemmas.List.{append_assoc, take_at, take_all, drop-drop, length-append, length-replicate, length-map, get_or-map, get_or-append_right, same_lists}
use Rattle.std.proofs.lemmas.Bool.Decides.{nat_tests}
use Rattle.std.proofs.lemmas.Nat.{from_le_bytes-to_le_bytes_4}
use Rattle.blocks.specs.declared.writer.Entry.{Entry}
use Rattle.blocks.specs.Checks.{weighted, check_of}
use Rattle.blocks.specs.Records.{told, at16}
use Rattle.blocks.specs.Reading.{count_of, number_of, said_at, records_of, letters_known, read_refusal}
use Rattle.blocks.specs.Writing.{le16, eight_of, entry_says, body_of, block_of}
use Rattle.blocks.proofs.Listed.{no_entry, length-records, get_or-records}

-- the bytes of an entry say what the entry says
told_eight : (e : Entry) → told (eight_of e) ≡ entry_says e
told_eight e =
    let object : e.object % 256 + e.object / 256 * 256 ≡ e.object = omega arith in
    cc

-- each entry has eight bytes
length-joined : (es : List Entry) → length (flat_map eight_of es) ≡ 8 * length es
length-joined [] = refl
length-joined (e ∷ es) = omega (arith, length-joined es)

-- the bytes of entry i, among the bytes of all
joined_at : (es : List Entry) (i : ℕ) (z : List ℕ) (d : Entry) → i < length es → take 8 (drop (8 * i) (flat_map eight_of es ++ z)) ≡ eight_of (get_or es i d)
joined_at [] i z d h = absurd (omega arith)
joined_at (e ∷ es) zero z d h = refl
joined_at (e ∷ es) (suc i) z d h =
    let far : 8 * suc i ≡ 8 + 8 * i = omega arith in
    ap (λ (n : ℕ). take 8 (drop n (flat_map eight_of (e ∷ es) ++ z))) far
    ∙ ap (take 8) (sym (drop-drop (8 * i) 8 (flat_map eight_of (e ∷ es) ++ z)))
    ∙ joined_at es i z d (omega arith)

-- a check is a remainder
check_small : (bs : List ℕ) → check_of bs < 65521
unfolding check_of
check_small bs = omega arith

module _ (n : ℕ) (es : List Entry) (few : length es ≤ 63) where
  -- the body has 510 bytes
  length-body : length (body_of n es) ≡ 510
  unfolding body_of
  length-body = omega (arith, length-joined, length-append {A = ℕ}, length-replicate {A = ℕ})

  -- the block has 512 bytes
  length-block : length (block_of n es) ≡ 512
  unfolding block_of
  length-block = omega (arith, length-body, length-append {A = ℕ})

  -- the first two bytes hold the count
  pub count_block : count_of (block_of n es) ≡ length es
  unfolding block_of body_of
  count_block = omega arith

  -- the next four bytes hold the number
  pub number_block : n < 2 ^ 32 → number_of (block_of n es) ≡ n
  unfolding block_of body_of
  number_block h = omega (arith, from_le_bytes-to_le_bytes_4 n h)

  -- the check covers the body alone
  check_block : check_of (block_of n es) ≡ check_of (body_of n es)
  unfolding block_of check_of
  check_block =
      let body = body_of n es in
      ap (λ (l : List ℕ). weighted 1 l % 65521) (take_at body (le16 (check_of body)) 510 length-body ∙ sym (take_all 510 body (omega (arith, length-body))))

  -- the last two bytes hold the check
  last_block : at16 (block_of n es) 510 ≡ check_of (block_of n es)
  unfolding block_of
  last_block =
      let body = body_of n es in
      let check = check_of body in
      let low : get_or (block_of n es) 510 0 ≡ check % 256 = get_or-append_right body (le16 check) 510 510 0 length-body (omega arith) in
      let high : get_or (block_of n es) 511 0 ≡ check / 256 % 256 = get_or-append_right body (le16 check) 510 511 0 length-body (omega arith) in
      let small : check < 65521 = check_small body in
      let whole : at16 (block_of n es) 510 ≡ check = omega arith in
      whole ∙ sym check_block

  -- place i holds what entry i says
  said_block : (i : ℕ) (d : Entry) → i < length es → said_at (block_of n es) i ≡ entry_says (get_or es i d)
  unfolding block_of body_of
  said_block i d h =
      let zeros : List ℕ = replicate (504 - 8 * length es) 0 in
      let check = le16 (check_of (body_of n es)) in
      let wide : 6 + 8 * i + 8 - (6 + 8 * i) ≡ 8 = omega arith in
      ap told
      (ap (λ (k : ℕ). take k (drop (6 + 8 * i) (block_of n es))) wide
      ∙ ap (take 8) (sym (drop-drop (8 * i) 6 (block_of n es)))
      ∙ ap (λ (l : List ℕ). take 8 (drop (8 * i) l)) (append_assoc (flat_map eight_of es) zeros check)
      ∙ joined_at es i (zeros ++ check) d h)
      ∙ told_eight (get_or es i d)

  -- the places within the count hold what the entries say, in order
  pub records_block : records_of (block_of n es) (length es) ≡ map entry_says es
  records_block =
      let block = block_of n es in
      same_lists (records_of block (length es)) (map entry_says es) (length-records block (length es) ∙ sym (length-map es entry_says))
      (λ k d h.
      let inside : k < length es = omega (arith, length-records block (length es)) in
      get_or-records block (length es) k d inside ∙ said_block k no_entry inside ∙ sym (get_or-map entry_says es k no_entry d inside))

  -- the reader answers each question 'yes' at a written block
  pub block_read : n < 2 ^ 32 → letters_known (map entry_says es) ≡ true → read_refusal (block_of n es) n ≡ None
  block_read h letters =
      let records = ap (λ (k : ℕ). letters_known (records_of (block_of n es) k)) count_block ∙ ap letters_known records_block ∙ letters in
      grind (arith, nat_tests, length-block, count_block, number_block h, last_block)
