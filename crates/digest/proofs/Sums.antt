-- Sums of words modulo 2 ^ 32, in any order. Assumes nothing.
use Rattle.std.proofs.Common.{◌≡◌, ℕ, ◌+◌, ◌-◌, ◌%◌, ◌^◌, List, get_or, sym, ap, ◌∙◌, arith}
use Rattle.digest.specs.Sha256.{add, ch, maj, big_sigma0, big_sigma1, small_sigma0, small_sigma1, schedule_word, temp1, temp2}

two : (a b : ℕ) → add a b ≡ (a + b) % 2 ^ 32
unfolding add
two a b = omega arith

-- a sum of which one part is taken modulo 2 ^ 32
more : (s a n : ℕ) → s ≡ n % 2 ^ 32 → add s a ≡ (n + a) % 2 ^ 32
unfolding add
more s a n is = omega arith

four : (a b c d : ℕ) → add (add (add a b) c) d ≡ (a + b + c + d) % 2 ^ 32
four a b c d = more _ d (a + b + c) (more _ c (a + b) (two a b))

five : (a b c d e : ℕ) → add (add (add (add a b) c) d) e ≡ (a + b + c + d + e) % 2 ^ 32
five a b c d e = more _ e (a + b + c + d) (four a b c d)

-- a word of the schedule, with its newest part last
pub schedule_sum : (w : List ℕ) (t : ℕ) → add (add (add (get_or w (t - 16) 0) (small_sigma0 (get_or w (t - 15) 0))) (get_or w (t - 7) 0)) (small_sigma1 (get_or w (t - 2) 0)) ≡ schedule_word w t
unfolding schedule_word
schedule_sum w t =
    let a = get_or w (t - 16) 0 in
    let b = small_sigma0 (get_or w (t - 15) 0) in
    let c = get_or w (t - 7) 0 in
    let d = small_sigma1 (get_or w (t - 2) 0) in
    let same : a + b + c + d ≡ d + c + b + a = omega arith in
    four a b c d ∙ ap (λ n. n % 2 ^ 32) same ∙ sym (four d c b a)

-- the two sums of a round, with their newest parts last
pub first_sum : (s : List ℕ) (k w : ℕ) → add (add (add (add (get_or s 7 0) k) w) (ch (get_or s 4 0) (get_or s 5 0) (get_or s 6 0))) (big_sigma1 (get_or s 4 0)) ≡ temp1 s k w
unfolding temp1
first_sum s k w =
    let h = get_or s 7 0 in
    let choose = ch (get_or s 4 0) (get_or s 5 0) (get_or s 6 0) in
    let sigma = big_sigma1 (get_or s 4 0) in
    let same : h + k + w + choose + sigma ≡ h + sigma + choose + k + w = omega arith in
    five h k w choose sigma ∙ ap (λ n. n % 2 ^ 32) same ∙ sym (five h sigma choose k w)

pub second_sum : (s : List ℕ) → add (maj (get_or s 0 0) (get_or s 1 0) (get_or s 2 0)) (big_sigma0 (get_or s 0 0)) ≡ temp2 s
unfolding temp2
second_sum s =
    let m = maj (get_or s 0 0) (get_or s 1 0) (get_or s 2 0) in
    let sigma = big_sigma0 (get_or s 0 0) in
    let same : m + sigma ≡ sigma + m = omega arith in
    two m sigma ∙ ap (λ n. n % 2 ^ 32) same ∙ sym (two sigma m)
