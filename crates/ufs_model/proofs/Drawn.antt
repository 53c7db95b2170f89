-- A word that is drawn, and the stream that is left.
use Rattle.std.proofs.Common.{◌≡◌, ℕ, ◌+◌, ◌<◌, ◌^◌, ap, ◌∙◌, arith}
use Rattle.ufs_model.proofs.Words.{ChaCha, next_word, word, words_from}

module _ (seed k r : ℕ) (g : ChaCha) (is : (r, g) ≡ next_word 10 (words_from seed k)) where
  pub drawn_word : (j : ℕ) → k ≡ j → r ≡ word seed j
  unfolding word words_from
  drawn_word j same = ap (λ x. x.0) is ∙ ap (word seed) same

  pub drawn_rest : (n : ℕ) → k + 1 ≡ n → n < 2 ^ 68 → g ≡ words_from seed n
  unfolding words_from
  drawn_rest n next small = ap (λ x. x.1) is ∙ ap (λ (m : ℕ). record (words_from seed k) { word_pos = m }) (omega arith)
