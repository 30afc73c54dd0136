use Rattle.file_port.proofs.disk.DiskStoreStore.begin_read.Goals as goal

pub returns-clause-begins : goal.returns-clause-begins
returns-clause-begins g c = c.begun.ensures.begins c.args.name.now
