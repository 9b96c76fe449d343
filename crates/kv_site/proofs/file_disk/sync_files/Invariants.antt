use Rattle.std.proofs.Common.{◌≡◌, ◌++◌, true, map, replicate, drop, vec_len, IsTrue}
use Rattle.kv_site.specs.PageFile.{image_in}
use Rattle.kv_site.proofs.file_disk.sync_files.Given as goal

-- the files before this one are durable, and the others are as before
abbrev pub invariant-loop-at : goal.invariant-loop-at
invariant-loop-at g l = record {
  length : vec_len l.files ≡ 17;
  marks : map g.F.PageFile.synced l.files.items ≡ replicate l.at true
      ++ drop l.at (map g.F.PageFile.synced l.initial.files.items);
  seen : IsTrue g.F.PageFile.tells → image_in g.F.PageFile.reads l.files.items
      ≡ image_in g.F.PageFile.reads l.initial.files.items;
}
