use Rattle.std.proofs.Common.{◌≡◌, ℕ, ◌-◌, ◌*◌, ◌/◌, ◌%◌, ◌≤◌, [], ◌∷◌, ◌++◌, length, take, replicate, ap, ◌∙◌, arith}
use Rattle.std.proofs.lemmas.List.{take-replicate}
use Rattle.aka.specs.Replies.{identity_body, words_for}
use Rattle.aka.proofs.reply.identity.Goals as goal

pub returns : goal.returns
returns c =
    let suci = c.as_slice-suci.result.now in
    let n = length suci in
    let head = 5 ∷ 0 ∷ 0 ∷ 14 ∷ words_for n ∷ n / 256 ∷ n % 256 ∷ [] in
    let fill = 4 * words_for n - 4 - n in
    let few : fill ≤ 3 = omega arith in
    let zeros : take {A = ℕ} fill (replicate 3 0) ≡ replicate fill 0 = take-replicate fill 3 0 few in
    let high : n / 256 % 256 ≡ n / 256 = omega arith in
    let bytes : c.put.new.body.items ≡ c.new-body.result.items ++ head = rw (c.to_be_bytes.ensures, high) at c.put.ensures in
    let first : c.put.new.body.items ≡ head = bytes ∙ ap (λ l. l ++ head) c.new-body.ensures in
    let second : c.put-2.new.body.items ≡ head ++ suci = c.put-2.ensures ∙ ap (λ l. l ++ suci) first in
    let third : c.put-3.new.body.items ≡ identity_body suci = c.put-3.ensures ∙ ap (λ l. l ++ take {A = ℕ} fill (replicate 3 0)) second ∙ ap (λ l. (head ++ suci) ++ l) zeros in
    third ∙ ap identity_body c.as_slice-suci.ensures.value
