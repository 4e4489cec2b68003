-- An element that was read lies inside the message. Assumes nothing.
use Rattle.std.proofs.Common.{◌≡◌, ℕ, ◌≤◌, leb, List, length, Some, None, Ok, Err, Option, Result, sym, ap, ◌∙◌, subst, ⊎_elim, arith, length-drop, length-take}
use Rattle.std.proofs.lemmas.Bool.{cases_Bool, leb-true, cond-true, cond-false, eqb-true}
use Rattle.std.specs.Option.{option_map}
use Rattle.nas.specs.declared.element.Element.{Element}
use Rattle.nas.specs.declared.fault.ElementFault.{ElementFault}
use Rattle.nas.specs.declared.fault.ElementFault.TheVariants.{Cut}
use Rattle.nas.specs.Elements.{Elem, element, end_at, whole_at, element_at, elements, end_of, header_of, tagged}
use Rattle.nas.specs.Walk.{first}
use Rattle.nas.specs.Outcomes.{IfFound, seen}
use Rattle.nas.proofs.Walks.{found_has}

-- an element that was read is the one there, and all of it is
pub record Whole (m : List ℕ) (p : ℕ) (e : Elem) : Type 0 where
  pub is : e ≡ whole_at m p
  pub inside : end_at m p ≤ length m
  pub end : end_of e ≡ end_at m p

end_is : (m : List ℕ) (p : ℕ) → end_at m p ≤ length m → end_of (whole_at m p) ≡ end_at m p
end_is m p h = simp (length-take, length-drop) (omega arith)

pub whole : (m : List ℕ) (p : ℕ) (e : Elem) → ◌≡◌ {A = Result Elem ElementFault} (Ok e) (element_at m p) → Whole m p e
whole m p e q =
    ⊎_elim
    (λ t.
    let is : e ≡ whole_at m p = cc (cond-true {A = Result Elem ElementFault} (leb (end_at m p) (length m)) (Ok (whole_at m p)) (Err (Cut p)) t) in
    let h = leb-true _ _ t in
    record { is = is; inside = h; end = ap end_of is ∙ end_is m p h })
    (λ t. let z : ◌≡◌ {A = ℕ} 0 1 = cc (cond-false {A = Result Elem ElementFault} (leb (end_at m p) (length m)) (Ok (whole_at m p)) (Err (Cut p)) t) in absurd (omega arith))
    (cases_Bool (leb (end_at m p) (length m)))

-- an element that was found has the tag that was looked for, and stands whole somewhere in the message
pub record Found (t : ℕ) (m : List ℕ) (e : Elem) : Type 0 where
  pub place : ℕ
  pub tag : e.tag ≡ t
  pub there : Whole m place e

pub found : (t : ℕ) (m : List ℕ) (p : ℕ) (e : Elem) → ◌≡◌ {A = Result (Option Elem) ElementFault} (Ok (Some e)) (first (tagged t) (elements m p)) → Found t m e
found t m p e q =
    subst (IfFound (Found t m)) (sym q)
    (found_has (element_at m) (end_at m) (length m) (tagged t) (Found t m) (λ p x is tag. record { place = p; tag = eqb-true _ _ tag; there = whole m p x (sym is) }) (length m) p)

pub found_inside : (t : ℕ) (m : List ℕ) (e : Elem) → Found t m e → end_of e ≤ length m
found_inside t m e f = omega (arith, f.there.inside, f.there.end)

pub found_header : (t : ℕ) (m : List ℕ) (e : Elem) → Found t m e → e.header ≡ header_of t
found_header t m e f = ap (λ x. x.header) f.there.is ∙ ap header_of (sym (ap (λ x. x.tag) f.there.is) ∙ f.tag)

-- what a search of the program found lies inside
pub search_inside : (t : ℕ) (m : List ℕ) (p : ℕ) (r : Result (Option Element) ElementFault) → seen (option_map element) r ≡ first (tagged t) (elements m p) → IfFound (λ e. end_of (element e) ≤ length m) r
search_inside t m p (Ok (Some e)) q = found_inside t m (element e) (found t m p (element e) q)
search_inside t m p (Ok None) q = tt
search_inside t m p (Err f) q = tt
