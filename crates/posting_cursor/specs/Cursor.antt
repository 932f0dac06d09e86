-- A posting cursor's forward step, and the cursor after it.
use Rattle.std.specs.Prelude.{ℕ}
use Rattle.index.specs.Forward.{step}
use Rattle.index.specs.declared.forward.Step.{Step}
use Rattle.posting_cursor.specs.declared.PostingCursor.{PostingCursor}

-- the step from the cursor's position to the first posting whose device is at least d
abbrev pub stepped : PostingCursor → ℕ → Step
stepped c d = step c.list.now c.position d

-- the same list, at where that step lands: "that becomes its place"
abbrev pub forwarded : PostingCursor → ℕ → PostingCursor
forwarded c d = record { list = c.list; position = (stepped c d).at }
