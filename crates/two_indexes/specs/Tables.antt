-- The two indexes that lent tables hold.
use Rattle.index.specs.Tables.{index_of}
use Rattle.two_indexes.specs.Indexes.{Indexes, indexes}
use Rattle.two_indexes.specs.declared.TwoIndexes.{TwoIndexes}

abbrev pub indexes_of : TwoIndexes → Indexes
indexes_of tables = indexes (index_of tables.first) (index_of tables.second)
