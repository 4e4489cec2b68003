use Rattle.std.proofs.Common.{◌≡◌, ◌+◌, ◌/◌, ◌%◌, ◌∷◌, ◌++◌, length, replicate, sym, ap, ◌∙◌, arith, length-append}
use Rattle.nas.specs.Replies.{response_packet}
use Rattle.aka.specs.Replies.{aka_type, challenge_body, challenge_front, mac_with}
use Rattle.aka.proofs.reply.challenge.Goals as goal

pub returns : goal.returns
unfolding challenge_body
returns c =
    let i = c.args.identifier in
    let k_aut_of = c.args.k_aut.now in
    let front = challenge_front c.args.res.now in
    let zeroed = front ++ replicate 16 0 in
    let is : c.challenge_front-body.result.items ≡ front = c.challenge_front-body.ensures.value in
    let long : length front ≡ 27 = ap length (sym is) ∙ c.challenge_front-body.ensures.len in
    let all : length zeroed + 5 ≡ 48 = ap (λ n. n + 5) (length-append front (replicate 16 0)) ∙ omega arith in
    let packet : 2 ∷ i ∷ 0 ∷ 48 ∷ 50 ∷ zeroed ≡ response_packet i aka_type zeroed = ap (λ n. 2 ∷ i ∷ n / 256 ∷ n % 256 ∷ 50 ∷ zeroed) (sym all) in
    let over : c.mac_of-mac.result ≡ mac_with k_aut_of (2 ∷ i ∷ 0 ∷ 48 ∷ 50 ∷ zeroed) = c.mac_of-mac.ensures ∙ ap (λ l. mac_with k_aut_of (2 ∷ i ∷ 0 ∷ 48 ∷ 50 ∷ (l ++ replicate 16 0))) (c.as_slice.ensures.value ∙ is) in
    c.put.ensures ∙ ap (λ l. l ++ c.mac_of-mac.result) is ∙ ap (λ m. front ++ m) (over ∙ ap (mac_with k_aut_of) packet)
