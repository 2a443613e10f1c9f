-- Cost lines in their sections.
use Rattle.std.proofs.Common.{◌≡◌, ◌≢◌, ℕ, ◌<◌, ◌≤◌, List, [], ◌∷◌, ◌++◌, length, codes, Option, Some, None, Bool, true, false, cond, refl, sym, ap, subst, ◌∙◌, arith, append_assoc, length-append, inl, inr}
use Rattle.std.specs.Cmp.Lexicographic.{pointwise_decides}
use Rattle.std.proofs.lemmas.Bool.Decides.{Decides-eqb}
use Rattle.cost_base.specs.Lists.{same_bytes}
use Rattle.design_problem.specs.declared.answer.CostLine.{CostLine}
use Rattle.design_problem.specs.Text.{router_lines, cost_lines, interface_line, answer_cost_line, interface_lines, router_line}
use Rattle.answer_lines.specs.declared.other_text.OtherText.{OtherText}
use Rattle.answer_lines.specs.Grammar.{TextPlace, Next, IsRouterNext, IsInterfaceNext, IsInterfaceAgain, IsEndNext, AtSections, AtInterface, AtCost}
use Rattle.answer_lines.specs.Places.{IsFirstInText, LacksLawful}
use Rattle.evidence_reader.specs.Sections.{IsCostBegun, LacksCost}
use Rattle.text_lines.specs.Lines.{with_ends}
use Rattle.answer_lines.specs.Lawful.{LineLeads, IsRead}
use Rattle.answer_lines.proofs.LineFronts.{first-one}
use Rattle.evidence_reader.specs.Stages.{IsSectionLine, behind_section_line, words_lines}
use Rattle.evidence_reader.specs.declared.stage_sections.SectionLine.{SectionLine}
use Rattle.evidence_reader.specs.declared.stage_sections.SectionLine.TheVariants.{Router, Interface}
use Rattle.evidence_reader.specs.declared.stage_sections.CostWords.{CostWords}
use Rattle.evidence_reader.proofs.NextPlaces.{go-then}

-- the router of the last cost line
abbrev pub router_before : Option (List ℕ) → List CostLine → Option (List ℕ)
router_before before [] = before
router_before before (line ∷ lines) = router_before (Some line.router) lines

pub router_before-more : (before : Option (List ℕ)) (lines : List CostLine) (line : CostLine) → router_before before (lines ++ line ∷ []) ≡ Some line.router
router_before-more before [] line = refl
router_before-more before (first ∷ lines) line = router_before-more (Some first.router) lines line

cost_lines-more : (before : Option (List ℕ)) (lines : List CostLine) (line : CostLine) →
    cost_lines before (lines ++ line ∷ []) ≡ cost_lines before lines ++ (router_lines (router_before before lines) line.router ++ interface_lines line)
cost_lines-more before [] line = refl
cost_lines-more before (first ∷ lines) line =
    let front : List (List ℕ) = router_lines before first.router in
    let others : List (List ℕ) = cost_lines (Some first.router) lines in
    let last : List (List ℕ) = router_lines (router_before (Some first.router) lines) line.router ++ interface_lines line in
    ap (λ rest. front ++ (interface_line first.interface ∷ answer_cost_line first.cost ∷ codes "exit" ∷ rest)) (cost_lines-more (Some first.router) lines line)
    ∙ sym (append_assoc front (interface_line first.interface ∷ answer_cost_line first.cost ∷ codes "exit" ∷ others) last)

-- the lines of one more cost
pub cost_more : (before : Option (List ℕ)) (lines more : List CostLine) (line : CostLine) (words : CostWords) →
    before ≡ router_before None lines → more ≡ lines ++ line ∷ [] →
    line ≡ record { router = words.router.now; interface = words.interface.now; cost = words.cost } →
    cost_lines None lines ++ (router_lines before words.router.now ++ words_lines words) ≡ cost_lines None more
cost_more before lines more line words last grown is =
    let said : CostLine = record { router = words.router.now; interface = words.interface.now; cost = words.cost } in
    ap (λ b. cost_lines None lines ++ (router_lines b words.router.now ++ words_lines words)) last
    ∙ sym (cost_lines-more None lines said)
    ∙ ap (λ (l : CostLine). cost_lines None (lines ++ l ∷ [])) (sym is)
    ∙ ap (cost_lines None) (sym grown)

-- the router's line stands where the router is another one
other_router : (before : Option (List ℕ)) (name : List ℕ) → before ≢ Some name → router_lines before name ≡ router_line name ∷ []
other_router None name other = refl
other_router (Some before) name other = cases (same_bytes before name) refl
  where
    cases : (b : Bool) → same_bytes before name ≡ b → cond b [] (router_line name ∷ []) ≡ router_line name ∷ []
    cases true is = absurd (other (ap Some ((pointwise_decides Decides-eqb before name).0 is)))
    cases false is = refl

same_router : (before : Option (List ℕ)) (name : List ℕ) → before ≡ Some name → router_lines before name ≡ []
same_router before name is =
    ap (λ (b : Option (List ℕ)). router_lines b name) is
    ∙ ap (λ (b : Bool). cond b [] (router_line name ∷ [])) ((pointwise_decides Decides-eqb name name).1 refl)

-- a cost behind the line of another router
pub router_section : (of : Option OtherText) (before : Option (List ℕ)) (name line : List ℕ) (words : CostWords) {b0 b1 b2 : ℕ}
    {bytes middle left : List ℕ} → before ≢ Some name → line ≡ router_line name → words.router.now ≡ name →
    IsRead (AtSections of before) b0 bytes (line ∷ []) (AtInterface of name) b1 middle →
    IsRead (AtInterface of name) b1 middle (words_lines words) (AtSections of (Some name)) b2 left →
    IsRead (AtSections of before) b0 bytes (router_lines before words.router.now ++ words_lines words) (AtSections of (Some words.router.now)) b2 left
router_section of before name line words {b0} {b1} {b2} {bytes} {middle} {left} other is same first second =
    let lines : line ∷ [] ≡ router_lines before name = ap (λ l. l ∷ []) is ∙ sym (other_router before name other) in
    subst (λ r. IsRead (AtSections of before) b0 bytes (router_lines before r ++ words_lines words) (AtSections of (Some r)) b2 left) (sym same)
    (subst (λ front. IsRead (AtSections of before) b0 bytes (front ++ words_lines words) (AtSections of (Some name)) b2 left) lines (go-then first second))

-- a cost behind the line of its interface
pub words_read : (of : Option OtherText) {from : TextPlace} (name interface line : List ℕ) (words : CostWords) {b0 b1 b2 : ℕ}
    {bytes middle left : List ℕ} → line ≡ interface_line interface → words.interface.now ≡ interface →
    IsRead from b0 bytes (line ∷ []) (AtCost of name) b1 middle →
    IsRead (AtCost of name) b1 middle (answer_cost_line words.cost ∷ codes "exit" ∷ []) (AtSections of (Some name)) b2 left →
    IsRead from b0 bytes (words_lines words) (AtSections of (Some name)) b2 left
words_read of {from} name interface line words {b0} {b1} {b2} {bytes} {middle} {left} is named first second =
    let lines : line ∷ answer_cost_line words.cost ∷ codes "exit" ∷ [] ≡ words_lines words =
    ap (λ l. l ∷ answer_cost_line words.cost ∷ codes "exit" ∷ []) (is ∙ ap interface_line (sym named)) in
    subst (λ l. IsRead from b0 bytes l (AtSections of (Some name)) b2 left) lines (go-then first second)

-- a cost of the router before
pub interface_section : (of : Option OtherText) (before : Option (List ℕ)) (name interface line : List ℕ) (words : CostWords) {b0 b1 b2 : ℕ}
    {bytes middle left : List ℕ} → before ≡ Some name → line ≡ interface_line interface →
    words.router.now ≡ name → words.interface.now ≡ interface →
    IsRead (AtSections of before) b0 bytes (line ∷ []) (AtCost of name) b1 middle →
    IsRead (AtCost of name) b1 middle (answer_cost_line words.cost ∷ codes "exit" ∷ []) (AtSections of (Some name)) b2 left →
    IsRead (AtSections of before) b0 bytes (router_lines before words.router.now ++ words_lines words) (AtSections of (Some words.router.now)) b2 left
interface_section of before name interface line words {b0} {b1} {b2} {bytes} {middle} {left} again is same named first second =
    subst (λ r. IsRead (AtSections of before) b0 bytes (router_lines before r ++ words_lines words) (AtSections of (Some r)) b2 left) (sym same)
    (subst (λ front. IsRead (AtSections of before) b0 bytes (front ++ words_lines words) (AtSections of (Some name)) b2 left)
    (sym (same_router before name again))
    (words_read of name interface line words is named first second))

-- a line of one more cost is in the grammar among the sections
pub section_says : (of : Option OtherText) (before : Option (List ℕ)) (line : List ℕ) (said : SectionLine) → IsSectionLine before line said →
    Next (AtSections of before) line (behind_section_line of said)
section_says of before line (Router name) h = inl (record { name = name.now; word = h.0; other = h.1; is = h.2; leads = refl })
section_says of before line (Interface router name) h =
    inr (inl (subst (λ b. IsInterfaceAgain of b line (AtCost of router.now)) (sym h.0) (record { name = name.now; word = h.1; is = h.2; leads = refl })))

-- what is neither of the two lines is no line of one more cost
pub no_section : (before : Option (List ℕ)) (line : List ℕ) →
    ((of : Option OtherText) (next : TextPlace) → IsRouterNext of before line next → ⊥) →
    ((of : Option OtherText) (next : TextPlace) → IsInterfaceAgain of before line next → ⊥) →
    (of : Option OtherText) (next : TextPlace) → IsCostBegun of before line next → ⊥
no_section before line no_router no_interface of next (inl is) = no_router of next is
no_section before line no_router no_interface of next (inr is) = no_interface of next is

-- where the first line is none of one more cost, none stands first
pub lacks-cost : (of : Option OtherText) (before : Option (List ℕ)) (bytes line left : List ℕ) → IsFirstInText bytes line left →
    ((next : TextPlace) → IsCostBegun of before line next → ⊥) → LacksCost of before bytes
lacks-cost of before bytes line left first off other more next there is =
    let same : line ≡ other = (first-one bytes line other left more first there.parts there.one).0 in
    off next (subst (λ l. IsCostBegun of before l next) (sym same) is)

-- where no line of one more cost stands first, and none that ends the sections, no lawful one does
pub lacks-both : (of : Option OtherText) (before : Option (List ℕ)) (bytes : List ℕ) → LacksCost of before bytes →
    ((line left : List ℕ) (next : TextPlace) → IsFirstInText bytes line left → IsEndNext of line next → ⊥) → LacksLawful (AtSections of before) bytes
lacks-both of before bytes no_cost no_end line left parts one lawful =
    let first : IsFirstInText bytes line left = record { parts = parts; one = one; short = lawful.1.short } in
    elim lawful.1.is [
      | inl router ↦ no_cost line left lawful.0 first (inl router)
      | inr (inl again) ↦ no_cost line left lawful.0 first (inr again)
      | inr (inr end) ↦ no_end line left lawful.0 first end
    ]

-- a line that is read behind the last cost line, as it is read where there are no costs
pub ends-behind : (of : Option OtherText) (before : Option (List ℕ)) (line : List ℕ) {to : TextPlace} {b0 b1 : ℕ} {bytes left : List ℕ} (from : TextPlace) →
    ((next : TextPlace) → LineLeads from line next → IsEndNext of line next × (length line ≤ 65536)) →
    IsRead from b0 bytes (line ∷ []) to b1 left → IsRead (AtSections of before) b0 bytes (line ∷ []) to b1 left
ends-behind of before line from ends read =
    let end = ends read.lead.0 read.lead.1 in
    record { lead = (read.lead.0, record { is = inr (inr end.0); short = end.1 }, read.lead.2); parts = read.parts; count = read.count }

-- without a router before no further interface stands
pub none_again : (of : Option OtherText) (before : Option (List ℕ)) (line : List ℕ) (next : TextPlace) → before ≡ None →
    IsInterfaceAgain of before line next → ⊥
none_again of before line next none is = subst (λ (b : Option (List ℕ)). IsInterfaceAgain of b line next) none is

pub again_said : (of : Option OtherText) (before : Option (List ℕ)) (router line : List ℕ) (next : TextPlace) → before ≡ Some router →
    IsInterfaceAgain of before line next → IsInterfaceNext of router line next
again_said of before router line next some is = subst (λ (b : Option (List ℕ)). IsInterfaceAgain of b line next) some is

-- a cost has lines
pub some_lines : (before : Option (List ℕ)) (words : CostWords) → 0 < length (router_lines before words.router.now ++ words_lines words)
some_lines before words = omega (arith, length-append (router_lines before words.router.now) (words_lines words))

-- what is left behind some lines is shorter
pub read-shorter : {from to : TextPlace} {b0 b1 : ℕ} {bytes left : List ℕ} (lines : List (List ℕ)) → 0 < length lines →
    IsRead from b0 bytes lines to b1 left → length left < length bytes
read-shorter [] some read = absurd (omega (arith, some))
read-shorter {from} {to} {b0} {b1} {bytes} {left} (line ∷ lines) some read =
    omega (
      arith,
      ap length read.parts,
      length-append (with_ends (line ∷ lines)) left,
      length-append (line ++ 10 ∷ []) (with_ends lines),
      length-append line (10 ∷ []),
    )
