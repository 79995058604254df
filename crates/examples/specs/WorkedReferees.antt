-- Worked examples of what referees answer and what it costs.
use Rattle.std.specs.Prelude.{◌≡◌, ℕ, ◌-◌, ◌^◌, [], ◌∷◌, Some, Ok, Err, codes, decimal, Result, nat_lt}
use Rattle.elements.specs.Entries.{lesser_entry}
use Rattle.elements.specs.declared.entry.Entry.TheVariants.{Below, Element, Above}
use Rattle.faults.specs.declared.fault.RunFault.{RunFault}
use Rattle.referees.specs.PlainStock.{FallsByOne, plain_stock}
use Rattle.referees.specs.declared.plain.Plain.{Plain}
use Rattle.referees.specs.Quotas.{QuotaParts, LowersBoth}
use Rattle.referees.specs.Spares.{SpareParts, SpendsInTurn}
use Rattle.referees.specs.Strips.{TakesTwoWords, strip_stock}
use Rattle.referees.specs.Questions.{OneQuestion, out_of_stock}
use Rattle.elements.specs.Limits.{saturated}
use Rattle.referees.specs.Operands.{entry_of, operand_of}
use Rattle.referees.specs.declared.operand.EntryKind.TheVariants.{Below as BelowKind, Element as ElementKind, Above as AboveKind}
use Rattle.referees.specs.declared.verdict.PairVerdict.{PairVerdict}
use Rattle.referees.specs.Verdicts.{first_of, weight_of, weight_of_sums}
use Rattle.referees.specs.declared.verdict.PairVerdict.TheVariants.{Before, NotBefore}
use Rattle.referees.specs.declared.verdict.GroupVerdict.TheVariants.{Lower, Higher, Done}
use Rattle.referees.specs.SecretShares.{shares_of, reconstructed}
use Rattle.referees.specs.declared.question.Question.TheVariants as Q
use Rattle.referees.specs.declared.question.Answer.TheVariants as A
use Rattle.referees.specs.Plays.{line_at, SpendsEach}
use Rattle.referees.specs.PlayPrinting.{line_text}
use Rattle.referees.specs.Piles.{pile_stock}

pub record Verdicts : Type 0 where
  pub before : first_of nat_lt (Element 12) (Element 20) ≡ Before
  pub equal : first_of nat_lt (Element 12) (Element 12) ≡ NotBefore
  pub marks : first_of nat_lt Below (Element 0) ≡ Before
  pub equal_marks : first_of nat_lt Above Above ≡ NotBefore
  pub at_k : weight_of 4 5 4 9 ≡ Lower
  pub past_n : weight_of 3 6 4 9 ≡ Higher
  pub neither : weight_of 3 5 4 9 ≡ Done
  pub sums_at_k : weight_of_sums (record { below = 4; above = 5; k = 4; n = 9 }) ≡ Lower
  pub sums_past_n : weight_of_sums (record { below = 3; above = 6; k = 4; n = 9 }) ≡ Higher
  pub no_wrap : weight_of 0 (2 ^ 32 - 1) 1 (2 ^ 32 - 1) ≡ Higher
  pub lesser : lesser_entry nat_lt (Element 12) Above ≡ Element 12
  pub lesser_of_equal : lesser_entry nat_lt Above Above ≡ Above

-- with 0 as the sample of the type
pub record Marks : Type 0 where
  pub mark_operand : operand_of {E = ℕ} 0 Above ≡ record { kind = AboveKind; element = 0 }
  pub element_operand : operand_of {E = ℕ} 0 (Element 12) ≡ record { kind = ElementKind; element = 12 }
  pub mark_taken : entry_of {E = ℕ} (record { kind = BelowKind; element = 12 }) ≡ Below

-- a plain referee is its number, a strip the list of its unused words
abbrev quota : ℕ → ℕ → QuotaParts Plain
quota own below = record { own = own; below = below }

abbrev spare : ℕ → ℕ → SpareParts Plain Plain
spare first second = record { first = first; second = second }

abbrev answered : Result PairVerdict RunFault
answered = Ok Before

abbrev refused : Result PairVerdict RunFault
refused = Err out_of_stock

-- what a question may come to, and what it may not
pub record Questions : Type 0 where
  pub answer : OneQuestion plain_stock 2 1 Before answered
  pub refusal : OneQuestion plain_stock 0 0 Before refused
  pub not_free : OneQuestion plain_stock 2 2 Before answered → ⊥
  pub not_of_two : OneQuestion plain_stock 2 0 Before answered → ⊥
  pub not_early : OneQuestion plain_stock 1 1 Before refused → ⊥
  pub not_late : OneQuestion plain_stock 0 0 Before answered → ⊥
  pub not_untrue : OneQuestion plain_stock 2 1 NotBefore answered → ⊥

-- which part pays, and which does not
pub record Payers : Type 0 where
  pub both : LowersBoth plain_stock FallsByOne (quota 3 2) (quota 2 1)
  pub not_one : LowersBoth plain_stock FallsByOne (quota 3 2) (quota 3 1) → ⊥
  pub the_first : SpendsInTurn plain_stock FallsByOne plain_stock FallsByOne (spare 1 5) (spare 0 5)
  pub then_the_second : SpendsInTurn plain_stock FallsByOne plain_stock FallsByOne (spare 0 5) (spare 0 4)
  pub not_second_first : SpendsInTurn plain_stock FallsByOne plain_stock FallsByOne (spare 1 5) (spare 1 4) → ⊥
  -- two questions in turn: one of the first and one of the second, and not two of the second
  pub turn_by_turn : SpendsEach (SpendsInTurn plain_stock FallsByOne plain_stock FallsByOne) (spare 1 5) 2 (spare 0 4)
  pub not_second_twice : SpendsEach (SpendsInTurn plain_stock FallsByOne plain_stock FallsByOne) (spare 1 5) 2 (spare 1 3) → ⊥
  pub two_words : TakesTwoWords (7 ∷ 8 ∷ 9 ∷ []) (9 ∷ [])
  pub not_one_word : TakesTwoWords (7 ∷ 8 ∷ 9 ∷ []) (8 ∷ 9 ∷ []) → ⊥
  -- a quota over a strip takes the strip's two words, and not one of them
  pub two_words_below : LowersBoth strip_stock TakesTwoWords (record { own = 3; below = 7 ∷ 8 ∷ 9 ∷ [] }) (record { own = 2; below = 9 ∷ [] })
  pub not_one_word_below : LowersBoth strip_stock TakesTwoWords (record { own = 3; below = 7 ∷ 8 ∷ 9 ∷ [] }) (record { own = 2; below = 8 ∷ 9 ∷ [] }) → ⊥

pub record SplitNumbers : Type 0 where
  pub of_5_by_7 : shares_of 5 7 ≡ record { word = 7; difference = 2 ^ 64 - 2 }
  pub together_again : reconstructed (record { word = 7; difference = 2 ^ 64 - 2 }) ≡ 5

pub record Stocks : Type 0 where
  pub capped : saturated (2 ^ 32) ≡ 4294967295
  -- a quota of 9 over a spare: first a quota of 4 over a plain referee of 5, then a strip of 13 words
  pub of_pile : pile_stock (record { whole = 9; part = 4; plain = 5 }) (0 ∷ 0 ∷ 0 ∷ 0 ∷ 0 ∷ 0 ∷ 0 ∷ 0 ∷ 0 ∷ 0 ∷ 0 ∷ 0 ∷ 0 ∷ []) ≡ 9
  pub of_smaller_part : pile_stock (record { whole = 9; part = 4; plain = 2 }) (0 ∷ 0 ∷ 0 ∷ []) ≡ 3

-- the second and the third line of a play from a stock of 2
pub record Plays : Type 0 where
  pub second : line_at nat_lt 2 1 (Q.First (Element 12) Above) ≡ record { question = Q.First (Element 12) Above; outcome = Some (Ok (A.First Before)); left = 0 }
  pub third : line_at nat_lt 2 2 (Q.Lesser Below (Element 12)) ≡ record { question = Q.Lesser Below (Element 12); outcome = Some (Err out_of_stock); left = 0 }
  pub printed_second : line_text (λ x. Some (decimal x)) (line_at nat_lt 2 1 (Q.First (Element 12) Above)) ≡ Some (codes "first 12, above: 1, left 0")
  pub printed_third : line_text (λ x. Some (decimal x)) (line_at nat_lt 2 2 (Q.Lesser Below (Element 12))) ≡ Some (codes "lesser below, 12: refused 16 run - -, left 0")
