-- One call more of a run, and its end.
use Rattle.std.proofs.Common.{◌≡◌, ℕ, ◌+◌, ◌<◌, ◌≤◌, List, [], ◌∷◌, ◌++◌, length, get_or, drop, sym, ap, ◌∙◌}
use Rattle.std.proofs.lemmas.List.{at_drop_more, at_drop_all, append_assoc, append-nil}
use Rattle.journal.specs.declared.call.Call.{Call}
use Rattle.journal.specs.declared.call.Line.{Line}
use Rattle.journal.specs.Runs.{World, reply_to, after_call, line, journal, after_calls}

-- w0 is the start of a run of cs; after i calls the world is w, and lines are written
module _ {K B : Type 0} (empty : K) (number : B → ℕ → ℕ) (moved : B → ℕ → ℕ → B) (w0 w : World K B) (cs : List (Call K)) (i : ℕ) (lines : List (Line K)) where
  -- the call c is next; it leads to v
  module _ (c : Call K) (v : World K B) (h : i < length cs) (e : c ≡ get_or cs i c) (m : v ≡ after_call empty number moved w c) where
    pub line_more : lines ++ journal empty number moved w (drop i cs) ≡ journal empty number moved w0 cs → (lines ++ line c (reply_to empty number w c) ∷ []) ++ journal empty number moved v (drop (i + 1) cs) ≡ journal empty number moved w0 cs
    line_more inv =
        append_assoc lines (line c (reply_to empty number w c) ∷ []) (journal empty number moved v (drop (i + 1) cs))
        ∙ ap (λ (z : World K B). lines ++ line c (reply_to empty number w c) ∷ journal empty number moved z (drop (i + 1) cs)) m
        ∙ ap (λ (z : Call K). lines ++ line z (reply_to empty number w z) ∷ journal empty number moved (after_call empty number moved w z) (drop (i + 1) cs)) e
        ∙ ap (λ (z : List (Line K)). lines ++ z) (sym (at_drop_more (journal empty number moved w) cs i c h))
        ∙ inv

    pub calls_more : after_calls empty number moved w (drop i cs) ≡ after_calls empty number moved w0 cs → after_calls empty number moved v (drop (i + 1) cs) ≡ after_calls empty number moved w0 cs
    calls_more inv =
        ap (λ (z : World K B). after_calls empty number moved z (drop (i + 1) cs)) m
        ∙ ap (λ (z : Call K). after_calls empty number moved (after_call empty number moved w z) (drop (i + 1) cs)) e
        ∙ sym (at_drop_more (after_calls empty number moved w) cs i c h)
        ∙ inv

  pub lines_all : length cs ≤ i → lines ++ journal empty number moved w (drop i cs) ≡ journal empty number moved w0 cs → lines ≡ journal empty number moved w0 cs
  lines_all h inv =
      sym (append-nil lines)
      ∙ ap (λ (z : List (Line K)). lines ++ z) (sym (at_drop_all (journal empty number moved w) cs i h))
      ∙ inv

  pub calls_all : length cs ≤ i → after_calls empty number moved w (drop i cs) ≡ after_calls empty number moved w0 cs → w ≡ after_calls empty number moved w0 cs
  calls_all h inv = sym (at_drop_all (after_calls empty number moved w) cs i h) ∙ inv

-- worlds with the same parts are the same
pub same_world : {K B : Type 0} (a b : World K B) → a.tables ≡ b.tables → a.bank ≡ b.bank → a ≡ b
same_world a b t k = λ i. record { tables = t i; bank = k i }
