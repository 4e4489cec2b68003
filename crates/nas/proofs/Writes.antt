-- What the writer of a message leaves in its buffer. Assumes nothing.
use Rattle.std.proofs.Common.{◌≡◌, ℕ, ◌+◌, ◌/◌, ◌%◌, ◌≤◌, true, List, ◌∷◌, ◌++◌, length, drop, sym, ap, ◌∙◌, arith, length-drop, take-append-drop, length-take}
use Rattle.std.proofs.lemmas.List.{drop-drop}
use Rattle.std.proofs.lemmas.Bool.{le-leb, and_from, cond-true}
use Rattle.nas.specs.Parts.{cut}
use Rattle.nas.specs.Replies.{fits_framed, framed}

-- a message whose header was put before the packet of n bytes
module _ (n : ℕ) (b : List ℕ) (short : n ≤ 65535) (room : n + 6 ≤ length b) where
  abbrev before : ℕ → List ℕ → List ℕ
  before k r = 0x7E ∷ 0x00 ∷ 0x57 ∷ 0x78 ∷ k / 256 ∷ k % 256 ∷ r

  fit_framed : fits_framed n b ≡ true
  fit_framed = and_from _ _ (le-leb _ _ short) (le-leb _ _ room)

  size : n ≡ length (cut b 6 n)
  size = simp (length-take, length-drop) (omega arith)

  after : drop 6 b ≡ cut b 6 n ++ drop (n + 6) b
  after =
      let k : 6 + n ≡ n + 6 = omega arith in
      sym (take-append-drop n (drop 6 b)) ∙ ap (λ r. cut b 6 n ++ r) (drop-drop n 6 b ∙ ap (λ j. drop j b) k)

  pub reply_framed : before n (drop 6 b) ≡ framed n b
  reply_framed = ap (before n) after ∙ ap (λ k. before k (cut b 6 n ++ drop (n + 6) b)) size ∙ sym (cond-true _ _ _ fit_framed)
