-- The index that lent tables hold.
use Rattle.index.specs.Index.{Index, index}
use Rattle.index.specs.declared.list.IndexTables.{IndexTables}

abbrev pub index_of : IndexTables → Index
index_of tables = index tables.terms.now tables.starts.now tables.postings.now
