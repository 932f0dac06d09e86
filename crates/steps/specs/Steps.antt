-- Document 01's cursor steps, word by word.
use Rattle.std.specs.Prelude.{ℕ, zero, suc, ◌+◌, ◌-◌, Bool, true, false, cond, List, [], ◌∷◌, ◌++◌, map, ltb, length}
use Rattle.laws.specs.Tables.{entry}
use Rattle.index.specs.Postings.{device, shared, carries}
use Rattle.steps.specs.Moves.{Counts, none, plus, behind, bring}
use Rattle.steps.specs.Matching.{Criteria, put}

-- a term is required (a needed mark) or forbidden (a barred one)
pub data Side : Type 0 where
  required : Side
  forbidden : Side

-- the cursor of a term, on its side: what is left of the term's list
pub record Cursor : Type 0 where
  pub side : Side
  pub left : List ℕ

-- what comes of a cursor at a position, and of a round
pub data Outcome : Type 0 where
  -- the position is accepted: by the cursor; by all of them, and "the round ends"
  accepts : Outcome
  -- the position is set to this one, and the round begins again
  again : ℕ → Outcome
  -- "the next move would exceed the allowance"
  stops : Outcome

-- "A cursor past its list stands on device N + 1": on the end
abbrev pub stands : ℕ → List ℕ → ℕ
stands end [] = end
stands end (q ∷ qs) = device q

module _ (last : List ℕ) (end p : ℕ) where
  -- what comes of a cursor that has been brought to position p
  abbrev pub brought : Side → List ℕ → Outcome
  -- "For a needed mark, if now c > p, set p to c and begin the round again."
  brought required c = elim (ltb p (stands end c)) [ true ↦ again (stands end c) | false ↦ accepts ]
  -- "For a barred mark, if the posting carries to p, set p to last(c) + 1 for a branch posting, else p + 1, and begin again."
  brought forbidden [] = accepts
  brought forbidden (q ∷ qs) = elim (carries last q p) [
    | true ↦ again (cond (shared q) (entry last (device q) + 1) (p + 1))
    | false ↦ accepts
  ]

  -- and of one that all the moves left may not have brought there: "If the next move would exceed the allowance the run stops"
  abbrev pub outcome : Side → List ℕ → Outcome
  outcome side c = elim (behind last p c) [ true ↦ stops | false ↦ brought side c ]

-- the cursors after a round, its counts, and what comes of it
pub record Round : Type 0 where
  pub cursors : List Cursor
  pub counts : Counts
  pub outcome : Outcome

-- a round that leaves cursors as they are
abbrev pub unmoved_all : List Cursor → Outcome → Round
unmoved_all cs o = record { cursors = cs; counts = none; outcome = o }

-- a cursor and its counts in front of the round of the others
abbrev pub onto : Cursor → Counts → Round → Round
onto c n r = record { cursors = c ∷ r.cursors; counts = plus n r.counts; outcome = r.outcome }

-- how a run ends: what it lists, its position, its counts, whether it stopped because the next move would exceed the budget, and where its
-- cursors stand then
pub record End : Type 0 where
  pub listed : List ℕ
  pub position : ℕ
  pub counts : Counts
  pub short : Bool
  pub cursors : List Cursor

abbrev pub ends : ℕ → Bool → List Cursor → End
ends p short cs = record { listed = []; position = p; counts = none; short = short; cursors = cs }

-- "list p when its code passes the window"
abbrev pub listing : Bool → ℕ → End → End
listing wanted p e = record { listed = put wanted p e.listed; position = e.position; counts = e.counts; short = e.short; cursors = e.cursors }

-- the counts of a round in front of a run
abbrev pub counted : Counts → End → End
counted n e = record { listed = e.listed; position = e.position; counts = plus n e.counts; short = e.short; cursors = e.cursors }

module _ (last root : List ℕ) (end : ℕ) where
  -- a round at position p with n moves left: "go through needed marks and then barred ones, in ask order. First bring that cursor to p"
  unfoldable pub round : ℕ → ℕ → List Cursor → Round
  round p n [] = unmoved_all [] accepts
  round p n (c ∷ cs) =
      let m = bring last root p n c.left in
      onto (record { side = c.side; left = m.cursor }) m.counts
      (elim (outcome last end p c.side m.cursor) [
        | accepts ↦ round p (n - m.counts.moves) cs
        | again next ↦ unmoved_all cs (again next)
        | stops ↦ unmoved_all cs stops
      ])

  -- a run from position p with n moves left, for at most k rounds. "While p ≤ N": before the end, which is the position of a run that gets there.
  -- "If the round ends, list p when its code passes the window, and add 1 to p."
  -- "If the next move would exceed the allowance the run stops with p as the place."
  unfoldable pub run : (ℕ → Bool) → ℕ → ℕ → ℕ → List Cursor → End
  run ok zero n p cs = ends p false cs
  run ok (suc k) n p cs =
      let r = round p n cs in
      elim (ltb p end) [
        | true ↦ counted r.counts (elim r.outcome [
          | accepts ↦ listing (ok p) p (run ok k (n - r.counts.moves) (p + 1) r.cursors)
          | again next ↦ run ok k (n - r.counts.moves) next r.cursors
          | stops ↦ ends p true r.cursors
        ])
        | false ↦ ends end false cs
      ]

-- "Each named mark, repeats included, has a cursor that begins on the first posting of its list"
abbrev pub placed : (ℕ → List ℕ) → Side → List ℕ → List Cursor
placed list s = map (λ t. record { side = s; left = list t })

abbrev pub cursors : (ℕ → List ℕ) → Criteria → List Cursor
cursors list a = placed list required a.required ++ placed list forbidden a.forbidden

-- the cursor steps for criteria with a budget (document 01's allowance). The position rises at each round: as many as `end` are never too few.
abbrev pub steps : List ℕ → List ℕ → (ℕ → List ℕ) → Criteria → ℕ → End
steps last root list a budget = run last root a.end a.ok a.end budget a.start (cursors list a)

-- the postings of some cursors
abbrev pub total : List Cursor → ℕ
total [] = 0
total (c ∷ cs) = length c.left + total cs

-- the postings of the lists named: "The lists an ask names are those of its needed and barred marks, one for each time a mark is written."
abbrev pub named : (ℕ → List ℕ) → Criteria → ℕ
named list a = total (cursors list a)
